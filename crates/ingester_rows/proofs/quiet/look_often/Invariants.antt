use Rattle.ingester.specs.Calls.{IsPassOf}
use Rattle.ingester_rows.proofs.quiet.look_often.Given as goal

abbrev pub invariant-loop-turn : goal.invariant-loop-turn
invariant-loop-turn l = IsPassOf l.ingester l.pass
