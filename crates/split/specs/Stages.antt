-- What the stages of a split make of the slots, pair by pair.
use Rattle.std.specs.Prelude.{◌≡◌, ◌≢◌, ◌≤◌, ◌<◌, ◌+◌, ◌^◌, ℕ, List, length}
use Rattle.accept.specs.Rooms.{Streams, segment_bytes, room}
use Rattle.disk.specs.Sight.{Sight}
use Rattle.segment.specs.ShardPlaces.{ShardPlace}
use Rattle.segment.specs.Versions.{latest}
use Rattle.segment.specs.Fitting.{FitStreams}
use Rattle.wal.specs.declared.log.Wal.{Wal}
use Rattle.wal.specs.Moments.{HasFailed, HasNoFailure}
use Rattle.wal.specs.Logs.{Follow, slots, IsOnDisk}
use Rattle.wal.specs.Opening.{slots_of, AllFollow}
use Rattle.split.specs.declared.fault.SplitFault.{SplitFault}
use Rattle.split.specs.declared.fault.SplitFault.TheVariants.{NotEmpty, Device, Memory}
use Rattle.split.specs.Splits.{pair_at, EachPair, HasNotFailed, KeepsStreams, IsFirstSegment, IsEmptyPair, IsFirstFull, HaveFollowed, IsAtRest, IsOldShardRead}

-- of the first n pairs this holds, and the others are as they were
pub record AreDone {D : Type 0} (P : ℕ → List D → List D → Type 0) (n : ℕ)
    (givens backs : List (List D)) : Type 0 where
  pub len : length backs ≡ length givens
  pub done : (s : ℕ) → s < n → P s (pair_at givens s) (pair_at backs s)
  pub same : (s : ℕ) → n ≤ s → pair_at backs s ≡ pair_at givens s

module _ {D : Type 0} (sight : D → Sight) (follows : D → Type 0) where
  -- an old shard's slots were read, and held these streams, which its segments can hold
  pub record IsOldShardOpened (owner : ShardPlace) (given back : List D) (m : Streams) : Type 0 where
    pub rests : IsAtRest sight follows given back
    pub read : IsOldShardRead sight follows owner given back m
    pub fit : FitStreams owner m
    pub small : room m ≤ 2 ^ 31 + segment_bytes

  -- a new shard's slots were measured, and are empty
  pub record IsTested (given back : List D) : Type 0 where
    pub rests : IsAtRest sight follows given back
    pub empty : AllFollow follows back → IsEmptyPair (slots_of sight given)
    pub not_failed : HasNoFailure (slots_of sight given) (slots_of sight back)

  -- or they are not, or a device failed
  pub data IsTestFault (s : ℕ) (given back : List D) (fault : SplitFault) : Type 0 where
    filled : (slot : ℕ) → fault ≡ NotEmpty s slot
        → (AllFollow follows back → IsFirstFull slot (slots_of sight given))
        → IsTestFault s given back fault
    unmeasured : fault ≡ Device s → HasFailed (slots_of sight given) (slots_of sight back)
        → IsTestFault s given back fault

  -- generation 1 stands in slot 1 with these streams
  pub record IsShardBegun (owner : ShardPlace) (given back : List D) (m : Streams) : Type 0 where
    pub before : HaveFollowed sight follows given back
    pub keeps : AllFollow follows back → KeepsStreams owner (slots_of sight back) m
    pub first : AllFollow follows back → (a b : List ℕ) → (slots_of sight back).first.may_leave a
        → (slots_of sight back).second.may_leave b → IsFirstSegment owner a b m
    pub not_failed : HasNoFailure (slots_of sight given) (slots_of sight back)

  -- or it is not there, and why
  pub data IsStartFault (s : ℕ) (given back : List D) (fault : SplitFault) : Type 0 where
    found_more : (slot : ℕ) → fault ≡ NotEmpty s slot
        → (AllFollow follows back → IsEmptyPair (slots_of sight given) → ⊥)
        → IsStartFault s given back fault
    broken : fault ≡ Device s → HasFailed (slots_of sight given) (slots_of sight back)
        → IsStartFault s given back fault
    short : fault ≡ Memory → HasNoFailure (slots_of sight given) (slots_of sight back)
        → IsStartFault s given back fault

  -- one of these shards did not start, and no device of another failed. For want of memory none failed at all
  pub record IsStartedInPart (count : ℕ) (givens backs : List (List D))
      (fault : SplitFault) : Type 0 where
    pub shard : ℕ
    pub within : shard < count
    pub why : IsStartFault shard (pair_at givens shard) (pair_at backs shard) fault
    pub others : EachPair (λ s given back. s ≢ shard → HasNotFailed sight follows given back)
        givens backs
    pub memory : fault ≡ Memory → EachPair (λ _. HasNotFailed sight follows) givens backs

-- a log that had no generation has the first, of the latest version, with these streams
pub record HasBegun {D : Type 0} (sight : D → Sight) (follows : D → Type 0) (old new : Wal D)
    (m : Streams) : Type 0 where
  pub settled : Follow follows new → (n : Streams) → IsOnDisk sight old n
      → IsOnDisk sight new m
  pub generation : new.generation ≡ 1
  pub version : new.version ≡ latest
  pub not_failed : HasNoFailure (slots sight old) (slots sight new)

-- why a log has no first generation of these streams
pub data IsBeginFault {D : Type 0} (sight : D → Sight) (old new : Wal D)
    (fault : SplitFault) : Type 0 where
  in_use : (slot : ℕ) → fault ≡ NotEmpty old.owner.shard slot → 0 < old.generation
      → IsBeginFault sight old new fault
  unwritten : fault ≡ Device old.owner.shard → HasFailed (slots sight old) (slots sight new)
      → IsBeginFault sight old new fault
  no_memory : fault ≡ Memory → HasNoFailure (slots sight old) (slots sight new)
      → IsBeginFault sight old new fault
