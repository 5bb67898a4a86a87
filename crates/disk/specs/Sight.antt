-- What a disk is at a moment, and what its calls do to it.
use Rattle.std.specs.Prelude.{◌≡◌, ◌≢◌, ◌≤◌, ◌⊎◌, ℕ, ◌+◌, ◌-◌, min, max, List, ◌++◌, length, take, drop, Result, MatchResult}

pub record Sight : Type 1 where
  -- the bytes that a read gives
  pub seen : List ℕ
  -- what a crash now may leave
  pub may_leave : List ℕ → Type 0
  -- a number that never falls: how far the disk's time has come
  pub moment : ℕ
  -- what a crash at some moment from that one on might have left
  pub left_since : ℕ → List ℕ → Type 0
  -- the count of failed calls
  pub failures : ℕ

-- new is old with these bytes at this place
abbrev pub Holds : List ℕ → ℕ → List ℕ → List ℕ → Type 0
Holds old at bytes new = new ≡ take at old ++ bytes ++ drop (at + length bytes) old

-- after a write of n bytes that a crash cuts short: any bytes in the range, the same before and after it, and a length
-- from the old one to that of the whole write
pub record Torn (at n : ℕ) (old new : List ℕ) : Type 0 where
  pub before : take at new ≡ take at old
  pub after : drop (at + n) new ≡ drop (at + n) old
  pub no_shorter : length old ≤ length new
  pub no_longer : length new ≤ max (length old) (at + n)

-- a crash leaves what a read gives and nothing else
abbrev pub IsSynced : Sight → Type 0
IsSynced s = (c : List ℕ) → s.may_leave c → c ≡ s.seen

-- Time goes on.
pub record Elapses (old new : Sight) : Type 0 where
  pub later : old.moment ≤ new.moment
  -- a crash since t might have left what it might have left before, or what it may leave now
  pub nothing_else : (t : ℕ) (c : List ℕ) → t ≤ old.moment → new.left_since t c
      → old.left_since t c ⊎ new.may_leave c
  -- what might have been left stays so
  pub keeps : (t : ℕ) (c : List ℕ) → t ≤ old.moment → old.left_since t c → new.left_since t c

-- a call that changes no byte
pub record Looks (old new : Sight) : Type 0 where
  pub time : Elapses old new
  pub same : new.seen ≡ old.seen
  pub crash : (c : List ℕ) → new.may_leave c → old.may_leave c

-- a write, done or failed: each new outcome of a crash is an old one with the range torn
pub record Writes (at n : ℕ) (old new : Sight) : Type 0 where
  pub time : Elapses old new
  pub crash : (c : List ℕ) → new.may_leave c → (d : List ℕ) × old.may_leave d × Torn at n d c

-- The count changes exactly at an error.
abbrev pub Counts : {T E : Type 0} → Result T E → ℕ → ℕ → Type 0
Counts result old new = MatchResult result (λ _. new ≡ old) (λ _. new ≢ old)

-- n bytes were read at this place into a buffer: those that fit, fewer only at the end
pub record Reads (file : List ℕ) (at n : ℕ) (old new : List ℕ) : Type 0 where
  pub number : n ≡ min (length old) (length file - at)
  pub bytes : take n new ≡ take n (drop at file)
