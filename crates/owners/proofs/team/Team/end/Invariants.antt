use Rattle.std.proofs.Common.{vec_len}
use Rattle.owners.proofs.team.Team.end.Given as goal

abbrev pub decreases-loop-thread : goal.decreases-loop-thread
decreases-loop-thread g l = vec_len l.threads
