use Rattle.ingester.specs.Calls.{IsPassOf}
use Rattle.ingester.proofs.Listing.{each_front}
use Rattle.tools.proofs.one_pass.open_for_one.Goals as goal

pub returns-clause-pass : goal.returns-clause-pass
returns-clause-pass g c =
    (each_front (IsPassOf c.in_ok-ingester.ingester) _ c.pop.new.self.items c.in-Some.pass c.in-Some.ensures.items
    c.in_ok-ingester.ensures.passes).1
