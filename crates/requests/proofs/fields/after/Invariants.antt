use Rattle.std.proofs.Common.{◌≡◌, length}
use Rattle.requests.specs.Fields.{after_mark}
use Rattle.requests.proofs.fields.after.Given as goal

abbrev pub invariant-loop-rest : goal.invariant-loop-rest
invariant-loop-rest l = after_mark l.mark l.rest ≡ after_mark l.mark l.fn.bytes

abbrev pub decreases-loop-rest : goal.decreases-loop-rest
decreases-loop-rest l = length l.rest
