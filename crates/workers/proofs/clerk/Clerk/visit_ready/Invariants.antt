use Rattle.std.proofs.Common.{◌≡◌}
use Rattle.talks.specs.Talks.{Visits}
use Rattle.workers.proofs.clerk.Clerk.visit_ready.Given as goal

abbrev pub invariant-loop-batch : goal.invariant-loop-batch
invariant-loop-batch g l = g.S.Serve.is_pass_of l.self.service.now l.self.pass × (l.self.service.now ≡ l.initial.self.service.now)
    × Visits g.S.Serve.visits l.initial.self.service.now l.initial.self.server l.initial.self.pass l.self.server l.self.pass
