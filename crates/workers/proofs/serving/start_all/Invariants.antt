use Rattle.std.proofs.Common.{◌≡◌, vec_len, All}
use Rattle.workers.specs.Workers.{with_starts}
use Rattle.workers.proofs.serving.start_all.Given as goal

abbrev pub invariant-loop-post : goal.invariant-loop-post
invariant-loop-post g l = All (g.S.Serve.is_pass_of l.fn.site.service.now) l.crew.passes.items
    × All (λ thread. thread.promise.service.value ≡ l.fn.site.service.now) l.crew.threads.items
    × (with_starts (λ thread. thread.promise.start.value) l.crew.passes.items l.crew.threads.items ≡ with_starts (λ thread. thread.promise.start.value) l.initial.crew.passes.items l.initial.crew.threads.items)

abbrev pub decreases-loop-post : goal.decreases-loop-post
decreases-loop-post g l = vec_len l.posts
