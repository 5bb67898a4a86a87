use Rattle.ingester.specs.Calls.{IsPassOf}
use Rattle.threads.proofs.tasks.see.Given as goal

abbrev pub invariant-loop : goal.invariant-loop
invariant-loop g l = IsPassOf l.context.ingester.now l.pass
