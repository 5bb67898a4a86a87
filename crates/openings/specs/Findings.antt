-- What an opening finds in the slots of its shards, and what it gives back.
use Rattle.std.specs.Prelude.{◌≡◌, ℕ, ◌+◌, List, [], ◌∷◌, ◌++◌, length}
use Rattle.accept.specs.Rooms.{Streams}
use Rattle.disk.specs.Sight.{Sight}
use Rattle.segment.specs.ShardPlaces.{place_of}
use Rattle.wal.specs.declared.fault.OpenFault.{OpenFault}
use Rattle.wal.specs.declared.log.Wal.{Wal}
use Rattle.wal.specs.Recovery.{Recovers}
use Rattle.wal.specs.Opening.{slots_of, AllFollow}
use Rattle.wal.specs.Opened.{IsOpenedFrom, IsReturned, IsRefusal}
use Rattle.openings.specs.declared.fault.LogsFault.{LogsFault}
use Rattle.openings.specs.declared.fault.LogsFault.TheVariants as faults

module _ {D : Type 0} (sight : D → Sight) (follows : D → Type 0) where
  -- the logs of the shards from k on were opened over these slots, and these streams stood in them
  abbrev pub AreOpenedFrom : ℕ → ℕ → ℕ → List (List D) → List (Wal D) → List Streams → Type 0
  AreOpenedFrom count capacity k [] [] [] = Unit {0}
  AreOpenedFrom count capacity k (given ∷ all) (log ∷ logs) (m ∷ ms) =
      IsOpenedFrom sight follows (place_of k count) capacity given log m
      × AreOpenedFrom count capacity (k + 1) all logs ms
  AreOpenedFrom count capacity k all logs ms = ⊥

  -- the slots of each shard come back, and nothing was written
  abbrev pub AreReturned : List (List D) → List (List D) → Type 0
  AreReturned [] [] = Unit {0}
  AreReturned (given ∷ all) (back ∷ backs) =
      IsReturned sight follows given back × AreReturned all backs
  AreReturned all backs = ⊥

  -- of the shards from k on the slots come back, and hold streams
  abbrev pub AreGood : ℕ → ℕ → List (List D) → List (List D) → Type 0
  AreGood count k [] [] = Unit {0}
  AreGood count k (given ∷ all) (back ∷ backs) =
      (IsReturned sight follows given back × ((m : Streams) × (AllFollow follows back
      → Recovers (place_of k count) (slots_of sight given).first.seen
      (slots_of sight given).second.seen m)))
      × AreGood count (k + 1) all backs
  AreGood count k all backs = ⊥

  -- The shard of this number is the first that is refused. Those after it may have been opened or refused meanwhile:
  -- their slots come back, and nothing was written.
  pub record IsFirstRefused (count : ℕ) (shard : ℕ) (fault : OpenFault)
      (all backs : List (List D)) : Type 0 where
    pub front : List (List D)
    pub given : List D
    pub behind : List (List D)
    pub front_back : List (List D)
    pub back : List D
    pub behind_back : List (List D)
    pub all_are : all ≡ front ++ given ∷ behind
    pub backs_are : backs ≡ front_back ++ back ∷ behind_back
    pub number : length front ≡ shard
    pub good : AreGood count 0 front front_back
    pub came_back : IsReturned sight follows given back
    pub refusal : IsRefusal sight follows (place_of shard count) given back fault
    pub returned : AreReturned behind behind_back

  -- All slots come back in their order, and this is why. Without memory they are untouched.
  abbrev pub AreRefused : ℕ → List (List D) → List (List D) → LogsFault → Type 0
  AreRefused count all backs (faults.Refused shard fault) =
      IsFirstRefused count shard fault all backs
  AreRefused count all backs faults.Memory = backs ≡ all
