-- What comes of the slots of old shards and of new ones, and why shards are not split.
use Rattle.std.specs.Prelude.{◌≡◌, ◌≢◌, ◌⊎◌, ◌≤◌, ◌<◌, ℕ, List, [], length, slice_index_or, Result, Ok, Err}
use Rattle.accept.specs.Rooms.{Streams, room}
use Rattle.disk.specs.Sight.{Sight}
use Rattle.segment.specs.ShardPlaces.{ShardPlace, place_of}
use Rattle.segment.specs.Versions.{latest_header}
use Rattle.wal.specs.declared.fault.OpenFault.{OpenFault}
use Rattle.wal.specs.Slots.{IsClosed}
use Rattle.wal.specs.Recovery.{Stands, Recovers}
use Rattle.wal.specs.Moments.{Pair, HasFailed, HasNoFailure}
use Rattle.wal.specs.Opening.{slots_of, AllFollow, PairRests, CountsCause, IsOfDeviceOrMemory, IsOpenFault}
use Rattle.split.specs.declared.fault.SplitFault.{SplitFault}
use Rattle.split.specs.declared.fault.SplitFault.TheVariants.{Old, NotEmpty, NoRoom, Device, Memory}
use Rattle.split.specs.declared.splitting.Slots.{Slots}
use Rattle.split.specs.Maps.{AreApart, IsSplit}

-- of pairs of slots that of a shard
abbrev pub pair_at : {D : Type 0} → List (List D) → ℕ → List D
pair_at pairs s = slice_index_or pairs s []

-- the slots that come back
abbrev pub back : {D : Type 0} → Result (Slots D) (SplitFault × Slots D) → Slots D
back (Ok slots) = slots
back (Err refusal) = refusal.1

-- each shard's pair, as it was given and as it comes back
abbrev pub EachPair : {D : Type 0} → (ℕ → List D → List D → Type 0) → List (List D) → List (List D)
    → Type 0
EachPair P givens backs = (s : ℕ) → s < length givens → P s (pair_at givens s) (pair_at backs s)

-- each two contents that a crash now may leave stand for these streams
abbrev pub KeepsStreams : ShardPlace → Pair → Streams → Type 0
KeepsStreams owner slots m = (a b : List ℕ) → slots.first.may_leave a → slots.second.may_leave b
    → Recovers owner a b m

-- slot 1 holds generation 1 of the latest version with these streams, and slot 0 is closed
pub record IsFirstSegment (owner : ShardPlace) (a b : List ℕ) (m : Streams) : Type 0 where
  pub end : ℕ
  pub stands : Stands owner b (latest_header 1) end m
  pub closed : IsClosed a

-- neither slot holds a byte
abbrev pub IsEmptyPair : Pair → Type 0
IsEmptyPair slots = (slots.first.seen ≡ []) × (slots.second.seen ≡ [])

-- this slot is the first that holds one
abbrev pub IsFirstFull : ℕ → Pair → Type 0
IsFirstFull slot slots =
    ((slot ≡ 0) × (¬ (slots.first.seen ≡ [])))
    ⊎ ((slot ≡ 1) × (slots.first.seen ≡ []) × (¬ (slots.second.seen ≡ [])))

module _ {D : Type 0} (sight : D → Sight) (follows : D → Type 0) where
  -- what follows the model now did when it was given
  abbrev pub HaveFollowed : List D → List D → Type 0
  HaveFollowed given back = AllFollow follows back → AllFollow follows given

  -- no device has failed
  abbrev pub HasNotFailed : List D → List D → Type 0
  HasNotFailed given back = HasNoFailure (slots_of sight given) (slots_of sight back)

  -- nothing was written: at each moment a crash leaves only what it could have left at the start
  pub record IsAtRest (given back : List D) : Type 0 where
    pub before : HaveFollowed given back
    pub rests : AllFollow follows back → PairRests (slots_of sight given) (slots_of sight back)

  -- an old shard's slots held these streams, and no crash takes them
  pub record IsOldShardRead (owner : ShardPlace) (given back : List D) (m : Streams) : Type 0 where
    pub recovers : AllFollow follows back
        → Recovers owner (slots_of sight given).first.seen (slots_of sight given).second.seen m
    pub keeps : AllFollow follows back → KeepsStreams owner (slots_of sight back) m
    pub not_failed : HasNotFailed given back

  -- a new shard's slots were empty, and slot 1 has generation 1 with these streams, which no crash takes
  pub record IsStarted (owner : ShardPlace) (cap : ℕ) (given back : List D) (m : Streams) : Type 0 where
    pub empty : AllFollow follows back → IsEmptyPair (slots_of sight given)
    pub keeps : AllFollow follows back → KeepsStreams owner (slots_of sight back) m
    pub first : AllFollow follows back → (a b : List ℕ) → (slots_of sight back).first.may_leave a
        → (slots_of sight back).second.may_leave b → IsFirstSegment owner a b m
    pub small : room m ≤ cap
    pub not_failed : HasNotFailed given back

  -- the streams that the old slots hold, shard by shard, and those of m new shards
  pub record Division (m : ℕ) (givens backs : List (List D)) : Type 0 where
    pub olds : ℕ → Streams
    pub news : ℕ → Streams
    pub read : EachPair (λ s given back. IsOldShardRead (place_of s (length givens)) given back
        (olds s)) givens backs
    pub apart : AreApart (length givens) olds
    pub split : IsSplit (length givens) m olds news

  -- all that the old slots hold stands in the new ones, under the new number of shards
  pub record AreSplit (cap : ℕ) (old old_back new new_back : List (List D)) : Type 0 where
    pub division : Division (length new) old old_back
    pub started : EachPair (λ s given back. IsStarted (place_of s (length new)) cap given back
        (division.news s)) new
        new_back

  -- why the slots of an old shard are refused, as the log says it
  pub record IsOldShardRefused (owner : ShardPlace) (given back : List D)
      (fault : OpenFault) : Type 0 where
    pub why : IsOfDeviceOrMemory fault ⊎ (AllFollow follows back
        → IsOpenFault owner (slots_of sight given).first.seen
        (slots_of sight given).second.seen fault)
    pub counted : CountsCause fault (slots_of sight given) (slots_of sight back)

  -- This old shard is the first whose slots are refused. No new slot was touched.
  pub record IsOldRefused (s : ℕ) (fault : OpenFault)
      (old old_back new new_back : List (List D)) : Type 0 where
    pub within : s < length old
    pub refused : IsOldShardRefused (place_of s (length old)) (pair_at old s)
        (pair_at old_back s) fault
    pub before : (i : ℕ) → i < s → (m : Streams)
        × IsOldShardRead (place_of i (length old)) (pair_at old i) (pair_at old_back i) m
    pub untouched : new_back ≡ new

  -- the slots of every old shard were read
  abbrev pub AreOldRead : List (List D) → List (List D) → Type 0
  AreOldRead old old_back =
      EachPair (λ s given back. (m : Streams)
      × IsOldShardRead (place_of s (length old)) given back m) old old_back

  -- Every old shard was read. If the new slots follow the disk model, this slot of this new shard is the first that is
  -- not empty, and nothing was written.
  pub record IsNotEmpty (s slot : ℕ) (old old_back new new_back : List (List D)) : Type 0 where
    pub read : AreOldRead old old_back
    pub within : s < length new
    pub full : AllFollow follows (pair_at new_back s)
        → IsFirstFull slot (slots_of sight (pair_at new s))
    pub before : (i : ℕ) → i < s → AllFollow follows (pair_at new_back i)
        → IsEmptyPair (slots_of sight (pair_at new i))
    pub rests : AllFollow follows (pair_at new_back s) → EachPair (λ _. IsAtRest) new new_back

  -- This new shard is the first whose streams need more room than there is. If the new slots follow the disk model, all
  -- of them are empty, and nothing was written.
  pub record HasNoRoom (cap s : ℕ) (old old_back new new_back : List (List D)) : Type 0 where
    pub division : Division (length new) old old_back
    pub within : s < length new
    pub full : cap < room (division.news s)
    pub before : (i : ℕ) → i < s → room (division.news i) ≤ cap
    pub empty : EachPair (λ _ given back. AllFollow follows back
        → IsEmptyPair (slots_of sight given)) new new_back
    pub rests : EachPair (λ _. IsAtRest) new new_back

  -- Every old shard was read, the new shards before this one are empty, and of all devices only one of this has failed.
  pub record IsBroken (s : ℕ) (old old_back new new_back : List (List D)) : Type 0 where
    pub read : AreOldRead old old_back
    pub within : s < length new
    pub failed : HasFailed (slots_of sight (pair_at new s)) (slots_of sight (pair_at new_back s))
    pub before : (i : ℕ) → i < s → AllFollow follows (pair_at new_back i)
        → IsEmptyPair (slots_of sight (pair_at new i))
    pub others : EachPair (λ i given back. i ≢ s → HasNotFailed given back) new new_back

  -- why shards are not split
  abbrev pub IsCause : SplitFault → ℕ → List (List D) → List (List D) → List (List D)
      → List (List D) → Type 0
  IsCause (Old s fault) cap old old_back new new_back =
      IsOldRefused s fault old old_back new new_back
  IsCause (NotEmpty s slot) cap old old_back new new_back =
      IsNotEmpty s slot old old_back new new_back
  IsCause (NoRoom s) cap old old_back new new_back = HasNoRoom cap s old old_back new new_back
  IsCause (Device s) cap old old_back new new_back = IsBroken s old old_back new new_back
  IsCause Memory cap old old_back new new_back = EachPair (λ _. HasNotFailed) old old_back
      × EachPair (λ _. HasNotFailed) new new_back
