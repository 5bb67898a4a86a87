use Rattle.std.proofs.Common.{◌≡◌, inr, ◌++◌, ◌∷◌, [], if◌then◌else◌, ap, ◌∙◌, subst, option_to_list}
use Rattle.std.specs.Result.{is_ok}
use Rattle.workers.specs.Workers.{WasServed, with_starts}
use Rattle.workers.proofs.Joining.{none_joined, still_joined}
use Rattle.workers.proofs.Lists.{popped, pushed}
use Rattle.workers.proofs.serving.join_all.Goals as goal

pub loop-thread-init : goal.loop-thread-init
loop-thread-init g c =
    (c.requires.passes, c.requires.threads, none_joined g.S.Serve.visits c.args.service.now (λ thread. thread.promise.start.value) c.args.crew.passes.items c.args.crew.threads.items)

pub loop-thread-preserved-then-is_err : goal.loop-thread-preserved-then-is_err
loop-thread-preserved-then-is_err g c =
    let IsPass = g.S.Serve.is_pass_of in
    let service = c.args.service.now in
    let left = popped c.loop-thread.threads.items c.pop.new.self.items (λ thread. thread.promise.service.value ≡ service) c.pop.result c.in-Some.thread c.pop.ensures.items c.in-Some.is c.loop-thread.invariant.1 in
    let this = subst (λ s. IsPass s c.join-pass.result.pass) left.1 c.join-pass.ensures.0 in
    (pushed c.loop-thread.passes.items c.push.new.self.items (IsPass service) (is_ok c.push.result) c.join-pass.result.pass c.push.ensures.items c.loop-thread.invariant.0 this, left.0, tt)

pub loop-thread-preserved : goal.loop-thread-preserved
loop-thread-preserved g c =
    let IsPass = g.S.Serve.is_pass_of in
    let visits = g.S.Serve.visits in
    let service = c.args.service.now in
    let thread = c.in-Some.thread in
    let pass = c.join-pass.result.pass in
    let old = c.loop-thread.passes.items in
    let left = popped c.loop-thread.threads.items c.pop.new.self.items (λ thread. thread.promise.service.value ≡ service) c.pop.result thread c.pop.ensures.items c.in-Some.is c.loop-thread.invariant.1 in
    let this = subst (λ s. IsPass s pass) left.1 c.join-pass.ensures.0 in
    let served : WasServed visits service thread.promise.server.value thread.promise.start.value pass = subst (λ s. WasServed visits s thread.promise.server.value thread.promise.start.value pass) left.1 c.join-pass.ensures.2 in
    let was : c.loop-thread.threads.items ≡ c.pop.new.self.items ++ thread ∷ [] = c.pop.ensures.items ∙ ap (λ o. c.pop.new.self.items ++ option_to_list o) c.in-Some.is in
    let more : c.push.new.self.items ≡ old ++ pass ∷ [] = c.push.ensures.items ∙ ap (λ b. if b then old ++ pass ∷ [] else old) (c.if-is_err.ensures.negation) in (
      pushed old c.push.new.self.items (IsPass service) (is_ok c.push.result) pass c.push.ensures.items c.loop-thread.invariant.0 this,
      left.0,
      still_joined visits service (λ thread. thread.promise.start.value) c.loop-thread.joined (with_starts (λ thread. thread.promise.start.value) c.args.crew.passes.items c.args.crew.threads.items) old c.push.new.self.items c.loop-thread.threads.items c.pop.new.self.items thread pass
          was more (inr (thread.promise.server.value, served)) c.loop-thread.invariant.2,
    )
