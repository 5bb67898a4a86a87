use Rattle.ingester.specs.Calls.{IsPassOf}
use Rattle.ingester.proofs.Listing.{each_front}
use Rattle.ingester_rows.proofs.quiet.next.Goals as goal

pub returns-clause-pass : goal.returns-clause-pass
returns-clause-pass c = (each_front (IsPassOf c.args.ingester.now) _ c.pop.new.self.items c.in-Some.pass c.in-Some.ensures.items c.requires.passes).1

pub returns-clause-passes : goal.returns-clause-passes
returns-clause-passes c = (each_front (IsPassOf c.args.ingester.now) _ c.pop.new.self.items c.in-Some.pass c.in-Some.ensures.items c.requires.passes).0
