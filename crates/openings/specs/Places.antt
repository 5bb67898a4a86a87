-- What becomes of the slots of shards that are opened side by side.
use Rattle.std.specs.Prelude.{ℕ, ◌+◌, List, [], ◌∷◌, Option, Some, None}
use Rattle.accept.specs.Rooms.{Streams}
use Rattle.disk.specs.Sight.{Sight}
use Rattle.segment.specs.ShardPlaces.{ShardPlace, place_of}
use Rattle.wal.specs.declared.fault.OpenFault.{OpenFault}
use Rattle.wal.specs.declared.log.Wal.{Wal}
use Rattle.wal.specs.Opening.{disks}
use Rattle.wal.specs.Opened.{IsOpenedFrom, IsReturned, IsRefusal}
use Rattle.openings.specs.declared.place.Place.{Place}
use Rattle.openings.specs.declared.place.Place.TheVariants.{Given, Out, Opened, Refused}

-- this fault at place k, or else what is found after it
abbrev pub first_of : ℕ → Option OpenFault → Option (ℕ × OpenFault) → Option (ℕ × OpenFault)
first_of k None behind = behind
first_of k (Some fault) behind = Some (k, fault)

module _ {D : Type 0} where
  -- the slots were not looked at
  abbrev pub IsNotLookedAt : Place D → Type 0
  IsNotLookedAt (Given a b) = Unit {0}
  IsNotLookedAt Out = ⊥
  IsNotLookedAt (Opened log m) = ⊥
  IsNotLookedAt (Refused fault a b) = ⊥

  -- the log is opened
  abbrev pub IsOpened : Place D → Type 0
  IsOpened (Given a b) = ⊥
  IsOpened Out = ⊥
  IsOpened (Opened log m) = Unit {0}
  IsOpened (Refused fault a b) = ⊥

  -- the slots are there, alone or under their log
  abbrev pub AreSlotsThere : Place D → Type 0
  AreSlotsThere (Given a b) = Unit {0}
  AreSlotsThere Out = ⊥
  AreSlotsThere (Opened log m) = Unit {0}
  AreSlotsThere (Refused fault a b) = Unit {0}

  abbrev pub slots_in : Place D → List D
  slots_in (Given a b) = a ∷ b ∷ []
  slots_in Out = []
  slots_in (Opened log m) = disks log
  slots_in (Refused fault a b) = a ∷ b ∷ []

  abbrev pub logs_in : List (Place D) → List (Wal D)
  logs_in [] = []
  logs_in (Given a b ∷ places) = logs_in places
  logs_in (Out ∷ places) = logs_in places
  logs_in (Opened log m ∷ places) = log ∷ logs_in places
  logs_in (Refused fault a b ∷ places) = logs_in places

  abbrev pub images_in : List (Place D) → List Streams
  images_in [] = []
  images_in (Given a b ∷ places) = images_in places
  images_in (Out ∷ places) = images_in places
  images_in (Opened log m ∷ places) = m ∷ images_in places
  images_in (Refused fault a b ∷ places) = images_in places

  -- why the slots are refused, where they are
  abbrev pub refusal_in : Place D → Option OpenFault
  refusal_in (Given a b) = None
  refusal_in Out = None
  refusal_in (Opened log m) = None
  refusal_in (Refused fault a b) = Some fault

  -- the first that is refused, by its number from k on, and why
  abbrev pub first_refused : ℕ → List (Place D) → Option (ℕ × OpenFault)
  first_refused k [] = None
  first_refused k (place ∷ places) = first_of k (refusal_in place) (first_refused (k + 1) places)

module _ {D : Type 0} (sight : D → Sight) (follows : D → Type 0) where
  -- the slots of a shard were opened, or refused
  abbrev pub IsTried : ShardPlace → ℕ → List D → Place D → Type 0
  IsTried whose capacity given (Given a b) = ⊥
  IsTried whose capacity given Out = ⊥
  IsTried whose capacity given (Opened log m) =
      IsOpenedFrom sight follows whose capacity given log m
  IsTried whose capacity given (Refused fault a b) =
      IsReturned sight follows given (a ∷ b ∷ [])
      × IsRefusal sight follows whose given (a ∷ b ∷ []) fault

  -- so were those of each shard from k on
  abbrev pub AreTried : ℕ → ℕ → ℕ → List (List D) → List (Place D) → Type 0
  AreTried count capacity k [] [] = Unit {0}
  AreTried count capacity k (given ∷ all) (place ∷ places) =
      IsTried (place_of k count) capacity given place × AreTried count capacity (k + 1) all places
  AreTried count capacity k all places = ⊥
