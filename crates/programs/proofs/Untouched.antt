-- Slots on which no call was made.
use Rattle.std.proofs.Common.{List, [], ◌∷◌, ◌++◌}
use Rattle.disk.specs.declared.file.FileDisk.{FileDisk}
use Rattle.programs.specs.declared.watched.Watched.{Watched}
use Rattle.programs.specs.Slots.{HaveNoCalls, AreUntouched}

-- those of one shard more
pub untouched_more : (pairs : List (List (Watched FileDisk))) (pair : List (Watched FileDisk)) → AreUntouched pairs → HaveNoCalls pair → AreUntouched (pairs ++ pair ∷ [])
untouched_more [] pair all one = (one, tt)
untouched_more (first ∷ pairs) pair all one = (all.0, untouched_more pairs pair all.1 one)
