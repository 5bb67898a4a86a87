use Rattle.std.proofs.Common.{sym, subst, ◌∙◌}
use Rattle.owners.specs.Calls.{AreOfCalls}
use Rattle.owners.proofs.making.hand_out.Goals as goal

pub loop-next-init : goal.loop-next-init
loop-next-init c =
    record {
      places = λ home calls places.
          let all = subst (AreOfCalls home.table) (sym c.from_vec-came.ensures.items ∙ c.in-Some.ensures.items) calls in
          (all.1, c.put.ensures home places all.0);
      capacity = c.in-Some.ensures.capacity ∙ c.from_vec-came.ensures.capacity;
    }
