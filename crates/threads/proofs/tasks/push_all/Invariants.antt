use Rattle.ingester.specs.Calls.{IsPassOf}
use Rattle.threads.proofs.tasks.push_all.Given as goal

abbrev pub invariant-loop-k : goal.invariant-loop-k
invariant-loop-k g l = IsPassOf l.context.ingester.now l.pass
