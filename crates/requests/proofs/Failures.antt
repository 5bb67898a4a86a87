-- The written out texts are those of the layout.
use Rattle.std.proofs.Common.{◌≡◌, refl}
use Rattle.std.specs.Fmt.{digits}
use Rattle.requests.specs.Answers.{status_line, type_line, length_line, allow_line, last_lines, failure_text, failure_bytes}
use Rattle.accept.specs.declared.fault.CallFault.{CallFault}
use Rattle.accept.specs.declared.fault.CallFault.TheVariants as faults

pub failure_is : (f : CallFault) → failure_bytes f ≡ failure_text f
unfolding status_line type_line length_line allow_line last_lines failure_text digits
failure_is faults.Memory = refl
failure_is faults.PassClosed = refl
failure_is faults.InDoubt = refl
failure_is faults.LogSpent = refl
