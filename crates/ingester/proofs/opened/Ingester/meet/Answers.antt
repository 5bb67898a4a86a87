use Rattle.std.proofs.Common.{ℕ, sym, ap, ◌∙◌, subst}
use Rattle.history.specs.declared.views.About.{About}
use Rattle.history.specs.Handles.{Passed, with_seen, HaveMet}
use Rattle.owners.specs.Openings.{Opening}
use Rattle.ingester.specs.Calls.{IsPassOf}
use Rattle.ingester.specs.Passes.{HasRoutes}
use Rattle.ingester.proofs.opened.Ingester.meet.Goals as goal

pub meet-requires : goal.meet-requires
meet-requires g c =
    let table = λ (p : Passed). p.table in
    let opened = sym (sym c.self.invariant.is_opening.same_table ∙ ap (λ (o : Opening g.row.D.Denot). o.table) c.self.view_is) in
    record { table = (ap table c.one.view_is ∙ (c.requires.one.table ∙ opened), ap table c.two.view_is ∙ (c.requires.two.table ∙ opened)) }

pub invariant_of-one : goal.invariant_of-one
invariant_of-one g c = subst (λ (p : Passed). HasRoutes p c.one.inside.routes.items) (sym c.meet.ensures.one) (record { idle = c.one.invariant.idle; count = c.one.invariant.count })

pub invariant_of-two : goal.invariant_of-two
invariant_of-two g c = subst (λ (p : Passed). HasRoutes p c.two.inside.routes.items) (sym c.meet.ensures.two) (record { idle = c.two.invariant.idle; count = c.two.invariant.count })

pub returns-clause-one : goal.returns-clause-one
returns-clause-one g c =
    let is = c.requires.one in
    let met = c.meet.ensures.one ∙ ap (λ (p : Passed). record p { caller = with_seen p.caller c.meet.new.one.caller.seen }) c.one.view_is in
    (subst (λ (p : Passed). IsPassOf c.args.self.now p) (sym met) (record { table = is.table; about = is.about; idle = is.idle }), met)

pub returns-clause-two : goal.returns-clause-two
returns-clause-two g c =
    let is = c.requires.two in
    let met = c.meet.ensures.two ∙ ap (λ (p : Passed). record p { caller = with_seen p.caller c.meet.new.two.caller.seen }) c.two.view_is in
    (subst (λ (p : Passed). IsPassOf c.args.self.now p) (sym met) (record { table = is.table; about = is.about; idle = is.idle }), met)

pub returns-clause-met : goal.returns-clause-met
returns-clause-met g c =
    let shards = ap (λ (p : Passed). p.caller.about.shards) c.one.view_is ∙ ap (λ (a : About). a.shards) c.requires.one.about in
    subst (λ (z : Passed × Passed × ℕ). HaveMet z.0.caller z.1.caller z.2 c.meet.new.one.caller.seen c.meet.new.two.caller.seen) (λ i. (c.one.view_is i, c.two.view_is i, shards i)) c.meet.ensures.met
