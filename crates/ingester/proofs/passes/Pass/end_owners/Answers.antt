use Rattle.std.proofs.Common.{sym, ◌∙◌}
use Rattle.owners.specs.Homes.{home_at}
use Rattle.ingester.proofs.passes.Pass.end_owners.Goals as goal

pub invariant_of-self : goal.invariant_of-self
invariant_of-self g c =
    let seat = c.self.inside.seat in
    let was = c.self.invariant in
    record {
      idle = c.end_owners.ensures.routes (home_at seat) seat.caller.pass was.idle;
      count = sym c.end_owners.new.routes.ok.0 ∙ (c.end_owners.ensures.len ∙ (c.self.inside.routes.ok.0 ∙ was.count));
    }
