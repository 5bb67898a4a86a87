use Rattle.ingester.specs.Calls.{IsPassOf}
use Rattle.ingester.proofs.Listing.{each_front, each_same}
use Rattle.threads.proofs.opening.last_of.Goals as goal

pub returns-in-Some-clause-pass : goal.returns-in-Some-clause-pass
returns-in-Some-clause-pass c = (each_front (IsPassOf c.args.ingester.now) _ c.pop.new.self.items c.in-Some.pass c.in-Some.ensures.items c.requires).1

pub returns-in-Some-clause-passes : goal.returns-in-Some-clause-passes
returns-in-Some-clause-passes c = (each_front (IsPassOf c.args.ingester.now) _ c.pop.new.self.items c.in-Some.pass c.in-Some.ensures.items c.requires).0

pub returns-in-None-clause-passes : goal.returns-in-None-clause-passes
returns-in-None-clause-passes c = each_same (IsPassOf c.args.ingester.now) _ c.pop.new.self.items c.in-None.ensures.items c.requires
