use Rattle.std.proofs.Common.{◌≡◌}
use Rattle.std.proofs.lemmas.List.Elements.{All-pop}
use Rattle.std.specs.Result.{is_ok}
use Rattle.workers.proofs.Joining.{none_left, started}
use Rattle.workers.proofs.Lists.{none_on_err, popped, pushed}
use Rattle.workers.proofs.serving.start_next.Goals as goal

pub returns-in_default-clause-passes : goal.returns-in_default-clause-passes
returns-in_default-clause-passes g c = (All-pop (g.S.Serve.is_pass_of c.args.site.now.service.now) c.args.crew.now.passes.items c.pop.new.self.items c.pop.result c.pop.ensures.items c.requires.passes).0

pub returns-in_err-thread-clause-passes : goal.returns-in_err-thread-clause-passes
returns-in_err-thread-clause-passes g c = (All-pop (g.S.Serve.is_pass_of c.args.site.now.service.now) c.args.crew.now.passes.items c.pop.new.self.items c.pop.result c.pop.ensures.items c.requires.passes).0

pub returns-then-is_err-clause-passes : goal.returns-then-is_err-clause-passes
returns-then-is_err-clause-passes g c = (All-pop (g.S.Serve.is_pass_of c.args.site.now.service.now) c.args.crew.now.passes.items c.pop.new.self.items c.pop.result c.pop.ensures.items c.requires.passes).0

pub returns-then-is_err-clause-threads : goal.returns-then-is_err-clause-threads
returns-then-is_err-clause-threads g c = pushed c.args.crew.now.threads.items c.push.new.self.items (λ thread. thread.promise.service.value ≡ c.args.site.now.service.now) (is_ok c.push.result) c.in_ok-thread.thread c.push.ensures.items c.requires.threads c.in_ok-thread.ensures.service

pub returns-clause-passes : goal.returns-clause-passes
returns-clause-passes g c = (All-pop (g.S.Serve.is_pass_of c.args.site.now.service.now) c.args.crew.now.passes.items c.pop.new.self.items c.pop.result c.pop.ensures.items c.requires.passes).0

pub returns-clause-threads : goal.returns-clause-threads
returns-clause-threads g c = pushed c.args.crew.now.threads.items c.push.new.self.items (λ thread. thread.promise.service.value ≡ c.args.site.now.service.now) (is_ok c.push.result) c.in_ok-thread.thread c.push.ensures.items c.requires.threads c.in_ok-thread.ensures.service

pub returns-then-is_err-2-clause-passes : goal.returns-then-is_err-2-clause-passes
returns-then-is_err-2-clause-passes g c = (All-pop (g.S.Serve.is_pass_of c.args.site.now.service.now) c.args.crew.now.passes.items c.pop.new.self.items c.pop.result c.pop.ensures.items c.requires.passes).0

pub returns-then-is_err-2-clause-threads : goal.returns-then-is_err-2-clause-threads
returns-then-is_err-2-clause-threads g c = pushed c.args.crew.now.threads.items c.push.new.self.items (λ thread. thread.promise.service.value ≡ c.args.site.now.service.now) (is_ok c.push.result) c.in_ok-thread.thread c.push.ensures.items c.requires.threads c.in_ok-thread.ensures.service

pub returns-in_default-clause-threads : goal.returns-in_default-clause-threads
returns-in_default-clause-threads g c = c.requires.threads

pub returns-in_err-thread-clause-threads : goal.returns-in_err-thread-clause-threads
returns-in_err-thread-clause-threads g c = c.requires.threads

pub returns-then-is_err-clause-order : goal.returns-then-is_err-clause-order
returns-then-is_err-clause-order g c = tt

pub returns-then-is_err-2-clause-order : goal.returns-then-is_err-2-clause-order
returns-then-is_err-2-clause-order g c = tt

pub returns-clause-order : goal.returns-clause-order
returns-clause-order g c =
    started (λ thread. thread.promise.start.value) c.args.crew.now.passes.items c.pop.new.self.items c.pop.result c.in-Some.pass c.args.crew.now.threads.items c.push.new.self.items (is_ok c.push.result) c.in_ok-thread.thread
    c.pop.ensures.items c.in-Some.is c.in_ok-thread.ensures.start c.push.ensures.items c.if-is_err.ensures.negation

pub returns-in_err-event_loop-clause-passes : goal.returns-in_err-event_loop-clause-passes
returns-in_err-event_loop-clause-passes g c = c.requires.passes

pub returns-in_err-event_loop-clause-threads : goal.returns-in_err-event_loop-clause-threads
returns-in_err-event_loop-clause-threads g c = c.requires.threads

pub returns-in_err-batch-clause-passes : goal.returns-in_err-batch-clause-passes
returns-in_err-batch-clause-passes g c = c.requires.passes

pub returns-in_err-batch-clause-threads : goal.returns-in_err-batch-clause-threads
returns-in_err-batch-clause-threads g c = c.requires.threads

pub returns-in_err-event_loop-clause-order : goal.returns-in_err-event_loop-clause-order
returns-in_err-event_loop-clause-order g c = none_on_err _ c.from_residual.result c.from_residual.ensures.0

pub returns-in_err-batch-clause-order : goal.returns-in_err-batch-clause-order
returns-in_err-batch-clause-order g c = none_on_err _ c.from_residual-in_err-batch.result c.from_residual-in_err-batch.ensures.0

pub returns-in_err-thread-clause-order : goal.returns-in_err-thread-clause-order
returns-in_err-thread-clause-order g c = none_on_err _ c.from_residual-in_err-thread.result c.from_residual-in_err-thread.ensures.0

pub returns-in_default-clause-order : goal.returns-in_default-clause-order
returns-in_default-clause-order g c = none_left (λ thread. thread.promise.start.value) c.args.crew.now.passes.items c.pop.new.self.items c.pop.result c.args.crew.now.threads.items c.pop.ensures.items c.in_default.is

pub start-requires-clause-pass : goal.start-requires-clause-pass
start-requires-clause-pass g c κs within = (popped c.args.crew.now.passes.items c.pop.new.self.items (g.S.Serve.is_pass_of c.args.site.now.service.now) c.pop.result c.in-Some.pass c.pop.ensures.items c.in-Some.is c.requires.passes).1
