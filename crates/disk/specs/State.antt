-- A disk by what was done on it: what a read gives, and what a crash may leave.
use Rattle.std.specs.Prelude.{◌≡◌, ◌≤◌, ◌<◌, ◌⊎◌, ℕ, ◌+◌, max, List, [], ◌∷◌, ◌++◌, length, take, drop, slice_index_or, nat_le, if◌then◌else◌}
use Rattle.disk.specs.Sight.{Sight}

pub data Act : Type 0 where
  -- a write of these bytes at a place
  Write : ℕ → List ℕ → Act
  -- a write of this many bytes at a place, which failed; of these bytes as many stand there then
  Break : ℕ → ℕ → List ℕ → Act
  Sync : Act

-- what was there at the last sync, what is there now, and the ranges (place, length) written between, the last first
pub record State : Type 0 where
  pub base : List ℕ
  pub now : List ℕ
  pub ranges : List (ℕ × ℕ)

-- an empty disk
abbrev pub nothing : State
nothing = record { base = []; now = []; ranges = [] }

-- n bytes were to be written at this place, where these stand then
abbrev pub over : State → ℕ → ℕ → List ℕ → State
over s at n bytes =
    record {
      base = s.base;
      now = take at s.now ++ bytes ++ drop (at + length bytes) s.now;
      ranges = (at, n) ∷ s.ranges;
    }

-- a write past the end isn't made
abbrev pub wrote : State → ℕ → ℕ → List ℕ → State
wrote s at n bytes = if nat_le at (length s.now) then over s at n bytes else s

abbrev pub act : State → Act → State
act s (Write at bytes) = wrote s at (length bytes) bytes
act s (Break at n bytes) = wrote s at n (take n bytes)
act s Sync = record { base = s.now; now = s.now; ranges = [] }

-- the first act is made first
abbrev pub state_after : State → List Act → State
state_after s [] = s
state_after s (a ∷ acts) = state_after (act s a) acts

-- the byte at i stands in none of these ranges
abbrev pub IsOutside : List (ℕ × ℕ) → ℕ → Type 0
IsOutside [] i = Unit {0}
IsOutside (range ∷ ranges) i = ((i < range.0) ⊎ (range.0 + range.1 ≤ i)) × IsOutside ranges i

-- where the last of these ranges ends
abbrev pub furthest : List (ℕ × ℕ) → ℕ
furthest [] = 0
furthest (range ∷ ranges) = max (range.0 + range.1) (furthest ranges)

-- What a crash may leave: any bytes in each range that was written and past the end at the last sync, the same
-- elsewhere, and a length from that at the last sync to the greatest since, also where a write failed.
pub record IsImage (s : State) (c : List ℕ) : Type 0 where
  pub no_shorter : length s.base ≤ length c
  pub no_longer : length c ≤ max (length s.now) (furthest s.ranges)
  pub same : (i : ℕ) → i < length s.base → IsOutside s.ranges i
      → slice_index_or c i 0 ≡ slice_index_or s.base i 0

-- a disk that was in a state when these acts began; its clock is their number
abbrev pub sight_of : State → List Act → ℕ → Sight
sight_of start acts failures = record {
  seen = (state_after start acts).now;
  may_leave = λ c. IsImage (state_after start acts) c;
  moment = length acts;
  left_since = λ t c. (k : ℕ) × (t ≤ k) × (k ≤ length acts)
      × IsImage (state_after start (take k acts)) c;
  failures = failures;
}
