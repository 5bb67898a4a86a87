use Rattle.ingester.specs.Calls.{IsPassOf}
use Rattle.ingester_rows.proofs.quiet.meet_often.Given as goal

abbrev pub invariant-loop : goal.invariant-loop
invariant-loop l = record { one : IsPassOf l.ingester l.one; two : IsPassOf l.ingester l.two }
