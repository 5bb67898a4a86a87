use Rattle.std.proofs.Common.{sym, subst}
use Rattle.history.specs.Handles.{Passed}
use Rattle.ingester.specs.Calls.{IsPassOf, AreGiven}
use Rattle.ingester.proofs.Passing.{idle_routes, routes_back}
use Rattle.ingester.proofs.opened.Ingester.call_all.Goals as goal

pub call_by-requires-clause-pass : goal.call_by-requires-clause-pass
call_by-requires-clause-pass g c = subst (λ (p : Passed). IsPassOf c.args.self.now p) (sym c.pass.view_is) c.requires.pass

pub call_by-requires-clause-routes : goal.call_by-requires-clause-routes
call_by-requires-clause-routes g c =
    let is = subst (λ (p : Passed). IsPassOf c.args.self.now p) (sym c.pass.view_is) c.requires.pass in
    idle_routes c.args.self.now c.pass.inside.seat c.pass.inside.routes.items is c.pass.invariant

pub call_by-requires-clause-calls : goal.call_by-requires-clause-calls
call_by-requires-clause-calls g c = (c.requires.few, c.requires.numbers)

pub call_by-requires-clause-outcomes : goal.call_by-requires-clause-outcomes
call_by-requires-clause-outcomes g c = (c.requires.empty, c.requires.room)

pub invariant_of-pass : goal.invariant_of-pass
invariant_of-pass g c =
    let made = c.call_by.ensures in
    routes_back c.args.self.now c.call_by.new.pass c.pass.inside.seat.caller.pass c.call_by.new.routes.items made.pass made.own made.routes

pub returns-clause-pass : goal.returns-clause-pass
returns-clause-pass g c = c.call_by.ensures.pass

pub returns-clause-given : goal.returns-clause-given
returns-clause-given g c = subst (λ (p : Passed). AreGiven p c.args.calls.now.items c.call_by.new.outcomes.items c.call_by.new.pass) c.pass.view_is c.call_by.ensures.given

pub returns-clause-taken : goal.returns-clause-taken
returns-clause-taken g c = c.call_by.ensures.taken.0

pub returns-clause-lens : goal.returns-clause-lens
returns-clause-lens g c = (c.call_by.ensures.taken.1, c.call_by.ensures.outcomes.0)

pub returns-clause-capacities : goal.returns-clause-capacities
returns-clause-capacities g c = (c.call_by.ensures.taken.2, c.call_by.ensures.outcomes.1)
