-- What a disk in memory shows.
use Rattle.std.specs.Prelude.{◌≡◌, ◌↔◌, ◌<◌, ◌≤◌, ◌⊎◌, ℕ, List, [], ◌∷◌, ◌++◌, ◌+◌, ◌-◌, ◌^◌, min, length, vec_len, Result, OnOk, IsOk, IsErr}
use Rattle.std.specs.Vec.{vec_capacity}
use Rattle.memory_disk.specs.declared.memory.MemDisk.{MemDisk}
use Rattle.disk.specs.Sight.{Sight}
use Rattle.disk.specs.State.{Act, Write, State, nothing, state_after, sight_of}
use Rattle.disk.specs.Laws.{now_counts, just_now, always_sound, sound_nothing}
use Rattle.memory_disk.specs.Memory.{acts}
use Rattle.memory_disk.specs.FaultPlan.{IsAsked}

-- the writes and syncs that it recorded, the first one first
abbrev pub recorded : MemDisk → List Act
recorded m = acts m.steps.items m.written.items

-- it recorded one more, or none
abbrev pub Records : Act → MemDisk → MemDisk → Type 0
Records a old new = recorded new ≡ recorded old ++ a ∷ []

abbrev pub RecordsNothing : MemDisk → MemDisk → Type 0
RecordsNothing old new = recorded new ≡ recorded old

-- what the recorded calls made of an empty disk
abbrev pub state_of : MemDisk → State
state_of m = state_after nothing (recorded m)

-- the disk at this moment, with a count of failures
abbrev pub sight_at : MemDisk → ℕ → Sight
sight_at m failures = sight_of nothing (recorded m) failures

abbrev pub memory_sight : MemDisk → Sight
memory_sight m = sight_at m m.failures

-- how many calls of `write_at` and `sync` were made, as far as its type goes
abbrev pub calls_of : MemDisk → ℕ
calls_of m = m.calls

-- the trait call with this number is to fail; the next one has number 1
abbrev pub WillFail : MemDisk → ℕ → Type 0
WillFail m k = IsAsked m.plan k

-- it can grow to a length, record this many more calls and this many more written bytes, and takes no memory for it
abbrev pub HasRoom : MemDisk → ℕ → ℕ → ℕ → Type 0
HasRoom m room calls written =
    (room ≤ vec_capacity m.bytes) × (vec_len m.steps + calls ≤ vec_capacity m.steps)
    × (vec_len m.written + written ≤ vec_capacity m.written)

-- what is left of the room after this many recorded calls and written bytes
abbrev pub KeepsRoom : ℕ → ℕ → MemDisk → MemDisk → Type 0
KeepsRoom calls written old new = (room more_calls more_written : ℕ)
    → HasRoom old room (calls + more_calls) (written + more_written)
    → HasRoom new room more_calls more_written

-- one trait call was made of those that were counted from the old disk on
abbrev pub GoesOn : MemDisk → MemDisk → Type 0
GoesOn old new = (k : ℕ) → 0 < k → (WillFail new k ↔ WillFail old (k + 1))

-- the disk counts one more call of `write_at` or `sync`
abbrev pub CountsCall : MemDisk → MemDisk → Type 0
CountsCall old new = calls_of new ≡ min (calls_of old + 1) (2 ^ 64 - 1)

-- one call of `write_at` or `sync` was made, with this many bytes written
pub record IsOneCall (written : ℕ) (old new : MemDisk) : Type 0 where
  pub goes_on : GoesOn old new
  pub calls : CountsCall old new
  pub room : KeepsRoom 1 written old new

-- a write is recorded whether it fails or not, except where it begins past the end. Where it fails for want of memory,
-- it may be missing
pub record RecordsWrite {T E : Type 0} (at : ℕ) (bytes : List ℕ) (result : Result T E)
    (old new : MemDisk) : Type 0 where
  pub made : OnOk result (Records (Write at bytes) old new)
  pub failed : at ≤ length (memory_sight old).seen
      → HasRoom old (at + length bytes) 1 (length bytes)
      → Records (Write at bytes) old new
  pub past_end : length (memory_sight old).seen < at → RecordsNothing old new
  pub either : Records (Write at bytes) old new ⊎ RecordsNothing old new

-- a write fails where that was asked for and where it begins past the end, otherwise only for want of memory
pub record FailsAsAsked {T E : Type 0} (at n : ℕ) (result : Result T E) (old : MemDisk) : Type 0 where
  pub asked : WillFail old 1 → IsErr result
  pub past_end : length (memory_sight old).seen < at → IsErr result
  pub works : ¬ WillFail old 1 → at ≤ length (memory_sight old).seen → HasRoom old (at + n) 1 n
      → IsOk result

-- what counts calls and failures is the same
pub record SameOthers (old new : MemDisk) : Type 0 where
  pub calls : new.calls ≡ old.calls
  pub failures : new.failures ≡ old.failures
  pub plan : new.plan ≡ old.plan

-- all but what was asked to fail is the same
abbrev pub IsSameDisk : MemDisk → MemDisk → Type 0
IsSameDisk old new = new ≡ record old { plan = new.plan }

pub memory_counts_now : (m : MemDisk) (t : ℕ) (c : List ℕ) → t ≤ (memory_sight m).moment
    → (memory_sight m).may_leave c
    → (memory_sight m).left_since t c
memory_counts_now m t c le image = now_counts nothing (recorded m) m.failures t c le image

pub memory_only_now : (m : MemDisk) (c : List ℕ)
    → (memory_sight m).left_since (memory_sight m).moment c
    → (memory_sight m).may_leave c
memory_only_now m c left = just_now nothing (recorded m) m.failures c left

pub memory_seen_may_stay : (m : MemDisk) → (memory_sight m).may_leave (memory_sight m).seen
memory_seen_may_stay m = always_sound nothing sound_nothing (recorded m)
