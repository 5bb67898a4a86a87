use Rattle.std.proofs.Common.{◌≡◌, ◌<◌, sym, ap, ◌∙◌, subst}
use Rattle.history.specs.declared.views.About.{About}
use Rattle.history.specs.Handles.{Passed}
use Rattle.history.specs.Histories.{IsBeginning, IsLegalAt, IsByPasses}
use Rattle.history.specs.Plays.{seen_at, look_to, HasStepsOf}
use Rattle.owners.specs.Openings.{Opening}
use Rattle.ingester.specs.Calls.{IsPassOf}
use Rattle.ingester.specs.Passes.{HasRoutes}
use Rattle.ingester.proofs.opened.Ingester.look.Goals as goal

pub observe-requires-clause-table : goal.observe-requires-clause-table
observe-requires-clause-table g c = ap (λ (p : Passed). p.table) c.pass.view_is ∙ (c.requires.pass.table ∙ sym (sym c.self.invariant.is_opening.same_table ∙ ap (λ (o : Opening g.row.D.Denot). o.table) c.self.view_is))

pub observe-requires-clause-shard : goal.observe-requires-clause-shard
observe-requires-clause-shard g c = subst (λ (a : About). c.args.shard < a.shards) (sym (ap (λ (p : Passed). p.caller.about) c.pass.view_is ∙ c.requires.pass.about)) c.requires.shard

pub invariant_of-pass : goal.invariant_of-pass
invariant_of-pass g c = subst (λ (p : Passed). HasRoutes p c.pass.inside.routes.items) (sym c.observe.ensures.pass) (record { idle = c.pass.invariant.idle; count = c.pass.invariant.count })

pub returns-clause-pass : goal.returns-clause-pass
returns-clause-pass g c =
    let is = c.requires.pass in
    let looked = c.observe.ensures.pass ∙ ap (λ (p : Passed). record p { caller = look_to p.caller c.args.shard (seen_at c.observe.new.pass.caller c.args.shard) }) c.pass.view_is in
    (subst (λ (p : Passed). IsPassOf c.args.self.now p) (sym looked) (record { table = is.table; about = is.about; idle = is.idle }), looked)

pub returns-clause-others : goal.returns-clause-others
returns-clause-others g c = λ k other. subst (λ (p : Passed). seen_at c.observe.new.pass.caller k ≡ seen_at p.caller k) c.pass.view_is (c.observe.ensures.others k other)

pub returns-clause-begins : goal.returns-clause-begins
returns-clause-begins g c =
    let k = c.args.shard in
    let now = seen_at c.observe.new.pass.caller k in
    subst (λ (p : Passed). IsBeginning (seen_at p.caller k) now) c.pass.view_is c.observe.ensures.begins

pub returns-clause-legal : goal.returns-clause-legal
returns-clause-legal g c =
    let k = c.args.shard in
    let now = seen_at c.observe.new.pass.caller k in
    subst (λ (p : Passed). IsLegalAt p.caller.about k now) c.pass.view_is c.observe.ensures.legal

pub returns-clause-by_passes : goal.returns-clause-by_passes
returns-clause-by_passes g c =
    let k = c.args.shard in
    let now = seen_at c.observe.new.pass.caller k in
    subst (λ (p : Passed). IsByPasses p.caller.about.passes now) c.pass.view_is c.observe.ensures.by_passes

pub returns-clause-steps : goal.returns-clause-steps
returns-clause-steps g c =
    let k = c.args.shard in
    let now = seen_at c.observe.new.pass.caller k in
    subst (λ (p : Passed). HasStepsOf p.caller k now) c.pass.view_is c.observe.ensures.steps
