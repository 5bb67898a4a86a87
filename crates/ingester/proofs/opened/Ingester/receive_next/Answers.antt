use Rattle.std.proofs.Common.{◌≡◌, ℕ, sym, subst}
use Rattle.std.specs.Prelude.{Option, Some, None}
use Rattle.history.specs.Histories.{IsFirstNumber}
use Rattle.owners.specs.Openings.{home_of}
use Rattle.ingester.proofs.opened.Ingester.receive_next.Goals as goal

some_not_none : {A : Type 0} (x : A) → ◌≡◌ {A = Option A} (Some x) None → ⊥
some_not_none x e = cc

pub take_in-requires-clause-table : goal.take_in-requires-clause-table
take_in-requires-clause-table g c = c.requires.table

pub take_in-requires-clause-about : goal.take_in-requires-clause-about
take_in-requires-clause-about g c = c.requires.about

pub take_in-requires-clause-due : goal.take_in-requires-clause-due
take_in-requires-clause-due g c = c.in_ok-settled.ensures.due (home_of c.args.self.now) c.args.pass.now.caller.pass c.requires.route.0 c.requires.route.1

pub take_in-requires-clause-number : goal.take_in-requires-clause-number
take_in-requires-clause-number g c = subst (λ (n : ℕ). IsFirstNumber n c.args.pass.now.caller.pending) (sym c.in_ok-settled.ensures.number) c.requires.number

pub take_in-requires-clause-rested : goal.take_in-requires-clause-rested
take_in-requires-clause-rested g c = c.requires.rested

pub returns-clause-taken : goal.returns-clause-taken
returns-clause-taken g c = c.take_in.ensures.taken

pub returns-clause-none : goal.returns-clause-none
returns-clause-none g c = λ e. absurd (some_not_none c.take_in.result e)

pub returns-clause-route : goal.returns-clause-route
returns-clause-route g c = λ k is. c.take.ensures.route (home_of c.args.self.now) c.args.pass.now.caller.pass k is
