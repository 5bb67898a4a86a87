use Rattle.ingester.specs.Calls.{IsPassOf}
use Rattle.ingester.proofs.Grounding.{fresh_are_of}
use Rattle.ingester.proofs.Listing.{each_front}
use Rattle.ingester_rows.proofs.together.Together.open.Goals as goal

pub invariant_of-result-clause-of_pass : goal.invariant_of-result-clause-of_pass
invariant_of-result-clause-of_pass g c = (each_front (IsPassOf c.in-Ok.ingester) _ c.pop.new.self.items c.in-Some.pass c.in-Some.ensures.items (fresh_are_of _ _ _ c.in-Ok.ensures.opened.passes)).1

pub invariant_of-result-clause-of_others : goal.invariant_of-result-clause-of_others
invariant_of-result-clause-of_others g c = (each_front (IsPassOf c.in-Ok.ingester) _ c.pop.new.self.items c.in-Some.pass c.in-Some.ensures.items (fresh_are_of _ _ _ c.in-Ok.ensures.opened.passes)).0
