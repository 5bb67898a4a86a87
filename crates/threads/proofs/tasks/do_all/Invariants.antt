use Rattle.ingester.specs.Calls.{IsPassOf}
use Rattle.threads.proofs.tasks.do_all.Given as goal

abbrev pub invariant-loop-task : goal.invariant-loop-task
invariant-loop-task g l = IsPassOf l.context.ingester.now l.pass
