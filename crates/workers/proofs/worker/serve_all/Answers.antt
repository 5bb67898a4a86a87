use Rattle.std.proofs.Common.{◌∙◌}
use Rattle.talks.proofs.Talking.{visits_join}
use Rattle.workers.proofs.worker.serve_all.Goals as goal

pub loop-turn-preserved : goal.loop-turn-preserved
loop-turn-preserved g c =
    let visits = g.S.Serve.visits in
    let old = c.args.clerk.now in
    let mid = c.loop-turn.clerk in
    let new = c.visit_ready-batch.new.self in
    let (is, same, some) = c.loop-turn.invariant in
    (c.visit_ready-batch.ensures.pass, c.visit_ready-batch.ensures.same ∙ same, visits_join visits old.service.now old.server old.pass mid.server mid.pass new.server new.pass some _ same c.visit_ready-batch.ensures.visits)

pub returns-in-Some-done-clause-visits : goal.returns-in-Some-done-clause-visits
returns-in-Some-done-clause-visits g c =
    let visits = g.S.Serve.visits in
    let old = c.args.clerk.now in
    let mid = c.loop-turn.clerk in
    let new = c.visit_ready-batch.new.self in
    let (is, same, some) = c.loop-turn.invariant in
    visits_join visits old.service.now old.server old.pass mid.server mid.pass new.server new.pass some _ same c.visit_ready-batch.ensures.visits

pub returns-then-not-may_go_on-clause-visits : goal.returns-then-not-may_go_on-clause-visits
returns-then-not-may_go_on-clause-visits g c =
    let visits = g.S.Serve.visits in
    let old = c.args.clerk.now in
    let mid = c.loop-turn.clerk in
    let new = c.visit_ready-batch.new.self in
    let (is, same, some) = c.loop-turn.invariant in
    visits_join visits old.service.now old.server old.pass mid.server mid.pass new.server new.pass some _ same c.visit_ready-batch.ensures.visits

pub returns-in-Some-done-clause-pass : goal.returns-in-Some-done-clause-pass
returns-in-Some-done-clause-pass g c = c.visit_ready-batch.ensures.pass

pub returns-in-Some-done-clause-same : goal.returns-in-Some-done-clause-same
returns-in-Some-done-clause-same g c = c.visit_ready-batch.ensures.same ∙ c.loop-turn.invariant.1

pub returns-then-not-may_go_on-clause-pass : goal.returns-then-not-may_go_on-clause-pass
returns-then-not-may_go_on-clause-pass g c = c.visit_ready-batch.ensures.pass

pub returns-then-not-may_go_on-clause-same : goal.returns-then-not-may_go_on-clause-same
returns-then-not-may_go_on-clause-same g c = c.visit_ready-batch.ensures.same ∙ c.loop-turn.invariant.1
