use Rattle.std.proofs.Common.{ℕ, sym, ◌∙◌, subst}
use Rattle.owners.specs.Homes.{Homed}
use Rattle.owners.specs.QueueEnds.{AreRows}
use Rattle.owners.proofs.plan.make_plan.Goals as goal

pub returns : goal.returns
returns g c =
    let made = c.in_ok-rows.ensures in
    let ends = c.in_ok-ends.ensures.ends in
    record {
      origin = c.of-origin.ensures;
      rows = subst (λ (z : Homed × ℕ). AreRows z.0 z.1 c.in_ok-rows.rows.items) (λ i. (c.of-home.ensures i, (c.len.ensures ∙ sym c.requires.shards) i)) made.rows.0;
      passes = made.rows.1 ∙ sym c.requires.passes;
      closing = c.in_ok-closing.ensures;
      ends = ends.0;
      count = ends.1 ∙ sym c.requires.shards;
    }
