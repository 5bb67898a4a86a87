use Rattle.std.proofs.Common.{◌≡◌, All, ap, sym, refl, ◌∙◌, subst}
use Rattle.workers.specs.Workers.{with_starts}
use Rattle.workers.proofs.serving.start_all.Goals.{in-Some+in_default-get, in-Some+in-Some-get+in_ok-start_next+then-not-branch, in_default}
use Rattle.workers.proofs.serving.start_all.Goals as goal

pub loop-post-init : goal.loop-post-init
loop-post-init g c = (c.requires.passes, c.requires.threads, refl)

pub loop-post-preserved : goal.loop-post-preserved
loop-post-preserved g c = (c.start_next.ensures.passes, c.start_next.ensures.threads, c.in_ok-start_next.ensures.order ∙ c.loop-post.invariant.2)

pub returns-in_err-start_next-clause-passes : goal.returns-in_err-start_next-clause-passes
returns-in_err-start_next-clause-passes g c = c.start_next.ensures.passes

pub returns-in_err-start_next-clause-threads : goal.returns-in_err-start_next-clause-threads
returns-in_err-start_next-clause-threads g c = c.start_next.ensures.threads

pub returns-clause-passes : goal.returns-clause-passes
returns-clause-passes g c =
    let IsPass = g.S.Serve.is_pass_of c.args.site.now.service.now in
    elim c.match-pop.branch [
      | in-Some+in_default-get w ↦ subst (λ crew. All IsPass crew.passes.items) (sym w.crew-is) c.loop-post.invariant.0
      | in-Some+in-Some-get+in_ok-start_next+then-not-branch w ↦ subst (λ crew. All IsPass crew.passes.items) (sym w.crew-is) w.start_next.ensures.passes
      | in_default w ↦ subst (λ crew. All IsPass crew.passes.items) (sym w.crew-is) c.loop-post.invariant.0
    ]

pub returns-clause-threads : goal.returns-clause-threads
returns-clause-threads g c =
    let service = c.args.site.now.service.now in
    elim c.match-pop.branch [
      | in-Some+in_default-get w ↦ subst (λ crew. All (λ thread. thread.promise.service.value ≡ service) crew.threads.items) (sym w.crew-is) c.loop-post.invariant.1
      | in-Some+in-Some-get+in_ok-start_next+then-not-branch w ↦ subst (λ crew. All (λ thread. thread.promise.service.value ≡ service) crew.threads.items) (sym w.crew-is) w.start_next.ensures.threads
      | in_default w ↦ subst (λ crew. All (λ thread. thread.promise.service.value ≡ service) crew.threads.items) (sym w.crew-is) c.loop-post.invariant.1
    ]

pub returns-clause-order : goal.returns-clause-order
returns-clause-order g c =
    elim c.match-pop.branch [
      | in-Some+in_default-get w ↦ ap (λ crew. with_starts (λ thread. thread.promise.start.value) crew.passes.items crew.threads.items) w.crew-is ∙ c.loop-post.invariant.2
      | in-Some+in-Some-get+in_ok-start_next+then-not-branch w ↦ ap (λ crew. with_starts (λ thread. thread.promise.start.value) crew.passes.items crew.threads.items) w.crew-is ∙ (w.in_ok-start_next.ensures.order ∙ c.loop-post.invariant.2)
      | in_default w ↦ ap (λ crew. with_starts (λ thread. thread.promise.start.value) crew.passes.items crew.threads.items) w.crew-is ∙ c.loop-post.invariant.2
    ]
