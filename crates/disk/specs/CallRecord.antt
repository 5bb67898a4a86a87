-- What a file has shown, by the record of its calls.
use Rattle.std.specs.Prelude.{◌≡◌, ◌≤◌, ℕ, ◌-◌, List, length, take, drop}
use Rattle.disk.specs.declared.calls.CallRecord.{CallRecord}
use Rattle.disk.specs.Sight.{Sight, Holds, Writes}
use Rattle.disk.specs.State.{Act, sight_of}
use Rattle.disk.specs.Calls.{acts_of, AreAnswers}

-- so far each call answered what the model gives
abbrev pub HasFollowed : CallRecord → Type 0
HasFollowed r = AreAnswers r.start r.calls

-- what the calls did
abbrev pub acts_in : CallRecord → List Act
acts_in r = acts_of r.start.left r.calls

-- the file at this moment, with a count of failures
abbrev pub sight_by : CallRecord → ℕ → Sight
sight_by r failures = sight_of r.start.state (acts_in r) failures

-- the calls between did nothing to the file
pub record OnlyAsks (old new : CallRecord) : Type 0 where
  pub start : new.start ≡ old.start
  pub acts : acts_in new ≡ acts_in old
  pub before : HasFollowed new → HasFollowed old

-- one write, of which each earlier outcome stays an outcome
pub record Goes (at n : ℕ) (old new : Sight) : Type 0 where
  pub writes : Writes at n old new
  pub stays : (c : List ℕ) → old.may_leave c → new.may_leave c

-- from bytes into a buffer, of those at this place
pub record ReadsSoFar (file : List ℕ) (at from : ℕ) (buf : List ℕ) : Type 0 where
  pub within : from ≤ length file - at
  pub same : take from buf ≡ take from (drop at file)

-- the first of these bytes were written, in some pieces
pub record WritesSoFar (at from : ℕ) (bytes : List ℕ) (old new : Sight) : Type 0 where
  pub goes : Goes at from old new
  pub holds : Holds old.seen at (take from bytes) new.seen
