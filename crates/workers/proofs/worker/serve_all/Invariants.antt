use Rattle.std.proofs.Common.{◌≡◌}
use Rattle.talks.specs.Talks.{Visits}
use Rattle.workers.proofs.worker.serve_all.Given as goal

abbrev pub invariant-loop-turn : goal.invariant-loop-turn
invariant-loop-turn g l = g.S.Serve.is_pass_of l.clerk.service.now l.clerk.pass × (l.clerk.service.now ≡ l.initial.clerk.service.now)
    × Visits g.S.Serve.visits l.initial.clerk.service.now l.initial.clerk.server l.initial.clerk.pass l.clerk.server l.clerk.pass
