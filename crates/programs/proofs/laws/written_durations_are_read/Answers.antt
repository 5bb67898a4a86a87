use Rattle.programs.proofs.PartsRead.{written_read}
use Rattle.programs.proofs.laws.written_durations_are_read.Goals as goal

pub returns : goal.returns
returns c part parts = written_read part parts
