-- The slots of a folder as they are opened.
use Rattle.std.specs.Prelude.{◌≡◌, List, [], ◌∷◌}
use Rattle.disk.specs.Sight.{Sight}
use Rattle.disk.specs.declared.file.FileDisk.{FileDisk}
use Rattle.disk.specs.FileDisk.{calls_on, file_sight, FileFollows}
use Rattle.programs.specs.declared.watched.Watched.{Watched}

-- what a slot of a folder shows
abbrev pub slot_sight : Watched FileDisk → Sight
slot_sight slot = file_sight slot.inner

-- it has followed the model so far
abbrev pub SlotFollows : Watched FileDisk → Type 0
SlotFollows slot = FileFollows slot.inner

-- no call was made on the slot
abbrev pub HasNoCall : Watched FileDisk → Type 0
HasNoCall slot = calls_on slot.inner ≡ []

-- nor on any of these
abbrev pub HaveNoCalls : List (Watched FileDisk) → Type 0
HaveNoCalls [] = Unit {0}
HaveNoCalls (slot ∷ slots) = HasNoCall slot × HaveNoCalls slots

-- nor on any slot of these shards
abbrev pub AreUntouched : List (List (Watched FileDisk)) → Type 0
AreUntouched [] = Unit {0}
AreUntouched (pair ∷ pairs) = HaveNoCalls pair × AreUntouched pairs
