use Rattle.disk.proofs.Crash.{breaks-any}
use Rattle.disk.proofs.laws.failed_writes_leave_any.Goals as goal

pub returns : goal.returns
returns c = λ s at n x le torn. breaks-any s at n x le torn
