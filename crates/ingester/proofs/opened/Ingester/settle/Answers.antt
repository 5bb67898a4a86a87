use Rattle.std.proofs.Common.{inl, refl, sym, ap, ◌∙◌, subst}
use Rattle.history.specs.Handles.{Passed}
use Rattle.history.specs.Histories.{IsFirstNumber}
use Rattle.owners.specs.Openings.{home_of}
use Rattle.owners.specs.Routes.{IsRoute}
use Rattle.ingester.proofs.opened.Ingester.settle.Goals as goal

pub receive_next-requires-clause-table : goal.receive_next-requires-clause-table
receive_next-requires-clause-table g c = c.requires.table

pub receive_next-requires-clause-about : goal.receive_next-requires-clause-about
receive_next-requires-clause-about g c = c.requires.about

pub receive_next-requires-clause-route : goal.receive_next-requires-clause-route
receive_next-requires-clause-route g c = c.requires.route

pub receive_next-requires-clause-number : goal.receive_next-requires-clause-number
receive_next-requires-clause-number g c = c.requires.number

pub receive_next-requires-clause-rested : goal.receive_next-requires-clause-rested
receive_next-requires-clause-rested g c = c.requires.rested

pub take_back-requires-clause-table : goal.take_back-requires-clause-table
take_back-requires-clause-table g c = ap (λ (p : Passed). p.table) (c.in-None.ensures.none refl) ∙ c.requires.table

pub take_back-requires-clause-about : goal.take_back-requires-clause-about
take_back-requires-clause-about g c = ap (λ (p : Passed). p.caller.about) (c.in-None.ensures.none refl) ∙ c.requires.about

pub take_back-requires-clause-route : goal.take_back-requires-clause-route
take_back-requires-clause-route g c =
    let k = c.requires.route.0 in
    (k, subst (λ (p : Passed). IsRoute (home_of c.args.self.now) p.caller.pass k c.receive_next.new.route) (sym (c.in-None.ensures.none refl)) (c.in-None.ensures.route k c.requires.route.1))

pub take_back-requires-clause-number : goal.take_back-requires-clause-number
take_back-requires-clause-number g c = subst (λ (p : Passed). IsFirstNumber c.args.number p.caller.pending) (sym (c.in-None.ensures.none refl)) c.requires.number

pub returns-in-Some-clause-settled : goal.returns-in-Some-clause-settled
returns-in-Some-clause-settled g c = inl c.in-Some.ensures.taken

pub returns-in-Some-clause-route : goal.returns-in-Some-clause-route
returns-in-Some-clause-route g c = λ k is. c.in-Some.ensures.route k is

pub returns-in-None-clause-route : goal.returns-in-None-clause-route
returns-in-None-clause-route g c = λ k is.
    let same = c.in-None.ensures.none refl in
    let home = home_of c.args.self.now in
    subst (λ (p : Passed). IsRoute home p.caller.pass k c.take_back.new.route) same
    (c.take_back.ensures.route k (subst (λ (p : Passed). IsRoute home p.caller.pass k c.receive_next.new.route) (sym same) (c.in-None.ensures.route k is)))
