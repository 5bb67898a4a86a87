use Rattle.std.proofs.Common.{◌∙◌}
use Rattle.talks.proofs.Talking.{visits_join}
use Rattle.workers.proofs.clerk.Clerk.visit_ready.Goals as goal

pub loop-batch-preserved : goal.loop-batch-preserved
loop-batch-preserved g c =
    let visits = g.S.Serve.visits in
    let old = c.args.self.now in
    let mid = c.loop-batch.self in
    let new = c.visit-batch.new.self in
    let (is, same, some) = c.loop-batch.invariant in
    (c.visit-batch.ensures.pass, c.visit-batch.ensures.same ∙ same, visits_join visits old.service.now old.server old.pass mid.server mid.pass new.server new.pass some _ same c.visit-batch.ensures.visits)
