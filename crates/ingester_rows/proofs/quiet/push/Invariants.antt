use Rattle.ingester.specs.Calls.{IsPassOf}
use Rattle.ingester_rows.proofs.quiet.push.Given as goal

abbrev pub invariant-loop-stream : goal.invariant-loop-stream
invariant-loop-stream g l = IsPassOf l.ingester l.pass
