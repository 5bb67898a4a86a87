-- What a disk in memory has recorded.
use Rattle.std.specs.Prelude.{◌≤◌, ℕ, ◌+◌, List, [], ◌∷◌, take, drop}
use Rattle.memory_disk.specs.declared.memory.RecordedCall.{RecordedCall}
use Rattle.memory_disk.specs.declared.memory.RecordedCall.TheVariants.{Wrote, Synced}
use Rattle.disk.specs.State.{Act, Write, Sync, State, nothing, state_after}

-- the steps, each write with its bytes
abbrev pub acts : List RecordedCall → List ℕ → List Act
acts [] written = []
acts ((Wrote at n) ∷ steps) written = Write at (take n written) ∷ acts steps (drop n written)
acts (Synced ∷ steps) written = Sync ∷ acts steps written

-- how many bytes the steps wrote
abbrev pub bytes_written : List RecordedCall → ℕ
bytes_written [] = 0
bytes_written ((Wrote at n) ∷ steps) = n + bytes_written steps
bytes_written (Synced ∷ steps) = bytes_written steps

-- what the steps made of an empty disk
abbrev pub replayed : List RecordedCall → List ℕ → State
replayed steps written = state_after nothing (acts steps written)

-- the ranges that the steps wrote, the last first, and after them these
abbrev pub ranges_after : List (ℕ × ℕ) → List RecordedCall → List (ℕ × ℕ)
ranges_after ranges [] = ranges
ranges_after ranges ((Wrote at n) ∷ steps) = ranges_after ((at, n) ∷ ranges) steps
ranges_after ranges (Synced ∷ steps) = ranges_after ranges steps

-- each range ends within this length
abbrev pub AreWithin : List (ℕ × ℕ) → ℕ → Type 0
AreWithin [] n = Unit {0}
AreWithin (range ∷ ranges) n = (range.0 + range.1 ≤ n) × AreWithin ranges n
