use Rattle.std.proofs.Common.{inl, refl}
use Rattle.owners.specs.Openings.{home_of}
use Rattle.ingester.proofs.opened.Ingester.take_back.Goals as goal

pub returns-in_default-clause-back : goal.returns-in_default-clause-back
returns-in_default-clause-back g c = inl refl

pub returns-in_default-clause-route : goal.returns-in_default-clause-route
returns-in_default-clause-route g c = λ k is. c.take_back.ensures.route (home_of c.args.self.now) c.args.pass.now.caller.pass k is

pub returns-then-number-clause-route : goal.returns-then-number-clause-route
returns-then-number-clause-route g c = λ k is. c.take_back.ensures.route (home_of c.args.self.now) c.args.pass.now.caller.pass k is

pub returns-else-number-clause-back : goal.returns-else-number-clause-back
returns-else-number-clause-back g c = inl refl

pub returns-else-number-clause-route : goal.returns-else-number-clause-route
returns-else-number-clause-route g c = λ k is. c.take_back.ensures.route (home_of c.args.self.now) c.args.pass.now.caller.pass k is
