use Rattle.std.proofs.Common.{◌≡◌, All, length}
use Rattle.accept.specs.Calls.{AreNumbers}
use Rattle.call_rows.proofs.gathered.Gathered.calls.Given as goal

abbrev pub invariant-loop-line : goal.invariant-loop-line
invariant-loop-line l = All AreNumbers l.calls.items × (length l.calls.items ≡ l.line-index)
