use Rattle.std.proofs.Common.{◌≡◌, vec_len, All, OnOk}
use Rattle.workers.specs.Workers.{with_starts}
use Rattle.workers.proofs.Joining.{IsJoined}
use Rattle.workers.proofs.serving.join_all.Given as goal

abbrev pub invariant-loop-thread : goal.invariant-loop-thread
invariant-loop-thread g l = All (g.S.Serve.is_pass_of l.service) l.passes.items
    × All (λ thread. thread.promise.service.value ≡ l.service) l.threads.items
    × OnOk l.joined (IsJoined g.S.Serve.visits l.service (λ thread. thread.promise.start.value) (with_starts (λ thread. thread.promise.start.value) l.fn.crew.passes.items l.fn.crew.threads.items) l.passes.items l.threads.items)

abbrev pub decreases-loop-thread : goal.decreases-loop-thread
decreases-loop-thread g l = vec_len l.threads
