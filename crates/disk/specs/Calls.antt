-- The calls of the system on a file, and what the model says that they answer.
use Rattle.std.specs.Prelude.{◌≡◌, ◌≤◌, ◌<◌, ◌⊎◌, ℕ, ◌+◌, ◌-◌, ◌^◌, min, List, [], ◌∷◌, ◌++◌, length, take, drop, ◌==◌, if◌then◌else◌, slice_index, slice_index_or, All, Result, OnOk, OnErr}
use Rattle.disk.specs.State.{Act, Write, Break, Sync, State, nothing, state_after, IsImage}

pub data Call : Type 0 where
  -- these bytes were read at this place into a buffer of this length
  Read : ℕ → ℕ → List ℕ → Call
  -- this many of these bytes were written at this place, perhaps none
  Wrote : ℕ → ℕ → List ℕ → Call
  -- a write of these bytes at this place failed
  Broke : ℕ → List ℕ → Call
  -- a sync was done
  Synced : Call
  -- the length was asked for
  Measured : ℕ → Call
  -- a read or a write was interrupted
  Interrupted : Call
  -- another call failed
  Refused : Call

-- A note's numbers are its kind, its place and a count.
abbrev pub call_of : List ℕ → List ℕ → Call
call_of numbers bytes =
    if slice_index numbers 0 == 0 then Read (slice_index numbers 1) (slice_index numbers 2) bytes
    else (if slice_index numbers 0 == 1 then Wrote (slice_index numbers 1)
    (slice_index numbers 2) bytes
    else (if slice_index numbers 0 == 2 then Broke (slice_index numbers 1) bytes
    else (if slice_index numbers 0 == 3 then Synced
    else (if slice_index numbers 0 == 4 then Measured (slice_index numbers 1)
    else (if slice_index numbers 0 == 5 then Interrupted
    else Refused)))))

-- A file as it is opened: its state, and which bytes the first call, the second and so on will leave in its range, if
-- it is a write that fails.
pub record Start : Type 0 where
  pub state : State
  pub left : List (List ℕ)

-- an empty file, in which no failed write leaves a byte
abbrev pub from_nothing : Start
from_nothing = record { state = nothing; left = [] }

-- what a call did, if it is one that leaves these bytes where it fails
abbrev pub acts_by : List ℕ → Call → List Act
acts_by left (Read at n bytes) = []
acts_by left (Wrote at n bytes) = Write at (take n bytes) ∷ []
acts_by left (Broke at bytes) = Break at (length bytes) left ∷ []
acts_by left Synced = Sync ∷ []
acts_by left (Measured n) = []
acts_by left Interrupted = []
acts_by left Refused = []

-- what calls did, the last of them first
abbrev pub acts_of : List (List ℕ) → List Call → List Act
acts_of left [] = []
acts_of left (call ∷ calls) = acts_of left calls ++ acts_by
    (slice_index_or left (length calls) []) call

-- Bytes of a file that a read of n gives: those at its place, none only where there are none.
pub record IsRead (file : List ℕ) (at n : ℕ) (bytes : List ℕ) : Type 0 where
  pub same : bytes ≡ take (length bytes) (drop at file)
  pub within : length bytes ≤ length file - at
  pub ends : length bytes ≡ 0 → min n (length file - at) ≡ 0

-- what a call answers at a file
abbrev pub IsAnswer : List ℕ → Call → Type 0
IsAnswer file (Read at n bytes) = IsRead file at n bytes
IsAnswer file (Wrote at n bytes) = Unit {0}
IsAnswer file (Broke at bytes) = Unit {0}
IsAnswer file Synced = Unit {0}
IsAnswer file (Measured n) = n ≡ length file
IsAnswer file Interrupted = Unit {0}
IsAnswer file Refused = Unit {0}

-- Each call answered what the model gives, from the state at the start on. The last call is first.
abbrev pub AreAnswers : Start → List Call → Type 0
AreAnswers start [] = IsImage start.state start.state.now
AreAnswers start (call ∷ calls) = AreAnswers start calls
    × IsAnswer (state_after start.state (acts_of start.left calls)).now call

-- the state at the start is one that there can be
pub start_sound : (start : Start) (calls : List Call) → AreAnswers start calls
    → IsImage start.state start.state.now
start_sound start [] sound = sound
start_sound start (call ∷ calls) answers = start_sound start calls answers.0

-- A call that failed. A write of which the system took no byte is one; a call that was interrupted is none.
abbrev pub IsFailedCall : Call → Type 0
IsFailedCall (Read at n bytes) = ⊥
IsFailedCall (Wrote at n bytes) = n ≡ 0
IsFailedCall (Broke at bytes) = Unit {0}
IsFailedCall Synced = ⊥
IsFailedCall (Measured n) = ⊥
IsFailedCall Interrupted = ⊥
IsFailedCall Refused = Unit {0}

-- none of these calls failed
abbrev pub HaveWorked : List Call → Type 0
HaveWorked calls = All (λ call. ¬ IsFailedCall call) calls

-- the last of these calls, which stands first, failed, and no other one
abbrev pub HasFailedLast : List Call → Type 0
HasFailedLast [] = ⊥
HasFailedLast (last ∷ earlier) = IsFailedCall last × HaveWorked earlier

-- why these calls did not read or write n bytes at a place: the last of them failed; or none was made, since the range
-- ends at 2^64 or later; or none failed, and there were 2^64 - 1
abbrev pub HasStopped : ℕ → ℕ → List Call → Type 0
HasStopped at n made =
    HasFailedLast made
    ⊎ ((made ≡ []) × (2 ^ 64 ≤ at + n))
    ⊎ (HaveWorked made × (length made ≡ 2 ^ 64 - 1))

-- These calls of the system are a read or a write of n bytes at a place, with this result.
pub record IsServedByCalls {T E : Type 0} (at n : ℕ) (result : Result T E)
    (old new : List Call) : Type 0 where
  -- the calls that were made for it, the last of them first
  pub made : List Call
  pub noted : new ≡ made ++ old
  pub ok : OnOk result (HaveWorked made × (at + n < 2 ^ 64))
  pub err : OnErr result (HasStopped at n made)
