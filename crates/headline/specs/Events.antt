-- A log from event to event, each over what a crash left of the one before: openings that lived, under any limits and
-- capacity; openings that were refused or killed; and splits into another number of shards.
use Rattle.std.specs.Prelude.{◌≡◌, ◌⊎◌, ◌<◌, ℕ, List, [], ◌∷◌, ◌++◌, length, map}
use Rattle.headline.specs.Types.{Streams, Limits, Ask, Item, Sight, Wal}
use Rattle.accept.specs.Histories.{meaning, answered_to}
use Rattle.wal.specs.Opening.{slots_of, disks, AllFollow}
use Rattle.openings.specs.Findings.{AreOpenedFrom, IsFirstRefused}
use Rattle.history.specs.Histories.{base_at}
use Rattle.ingester.specs.declared.refusal.OpenFault.{OpenFault}
use Rattle.ingester.specs.Findings.{IsUnmade}
use Rattle.split.specs.Maps.{map_at, IsSplit}
use Rattle.split.specs.Splits.{pair_at, EachPair, IsAtRest, AreSplit}
use Rattle.headline.specs.Headline.{RefusedShard, IsForDeviceOrMemory}
use Rattle.headline.specs.Lives.{Life, AreLeftBy, AreLeftAt, LogsFollow, IsLife, IsHeadlineOf, failures_of}
use Rattle.headline.specs.Chains.{Part, IsPart, answered_in}

-- An opening that came to nothing: the slots that it got, and as they were when its call came back, or would have.
pub record Attempt (D : Type 0) : Type 0 where
  pub given : List (List D)
  pub backs : List (List D)

-- A split into segments of at most this size: the slots of the old shards and of the new ones, before it and after it.
pub record Splitting (D : Type 0) : Type 0 where
  pub cap : ℕ
  pub old : List (List D)
  pub old_back : List (List D)
  pub new : List (List D)
  pub new_back : List (List D)

-- An opening, until each of its shards was closed or cut; one that was refused; one that a crash cut before it was
-- made; a split, after which the new shards are used; and one after which the old ones are, since it was refused or
-- cut.
pub data Event (D : Type 0) : Type 0 where
  Lived : Life D → Event D
  Refused : Attempt D → Event D
  Killed : Attempt D → Event D
  Split : Splitting D → Event D
  Unsplit : Splitting D → Event D

-- the slots that an event begins with
abbrev pub given_to : {D : Type 0} → Event D → List (List D)
given_to (Lived life) = life.given
given_to (Refused a) = a.given
given_to (Killed a) = a.given
given_to (Split s) = s.old
given_to (Unsplit s) = s.old

-- ---- what a one-thread ingester makes of the streams

-- what it has that had these streams, and got these calls under these limits
abbrev pub after_calls : Limits → Streams → List Ask → Streams
after_calls limits m calls =
    meaning (answered_to limits (record { base = m; items = [] }) calls)

-- each of n shards has what it had
abbrev pub AreSame : ℕ → (ℕ → Streams) → (ℕ → Streams) → Type 0
AreSame n before after = (k : ℕ) → k < n → after k ≡ before k

-- An opening began with the streams of shard k, and it executed the answered calls of a beginning of its history, and
-- calls that were being written, under its own limits.
pub record IsExecuted {D : Type 0} (k : ℕ) (life : Life D) (history : ℕ → List Item)
    (before after : Streams) : Type 0 where
  pub base : before ≡ base_at life.opening.about k
  pub part : Part
  pub part_is : IsPart k life history part
  pub the_state_after : after
      ≡ after_calls life.opening.about.limits before (answered_in part.beginning ++ part.more)

-- what an event made of the streams of each shard
abbrev pub Makes : {D : Type 0} → Event D → (ℕ → List Item) → (ℕ → Streams) → (ℕ → Streams)
    → Type 0
Makes (Lived life) history before after = (k : ℕ) → k < length life.given
    → IsExecuted k life history (before k) (after k)
Makes (Split s) history before after = IsSplit (length s.old) (length s.new) before after
Makes e history before after = AreSame (length (given_to e)) before after

-- and events one after another, each with its history
abbrev pub AreMade : {D : Type 0} → List (Event D) → List (ℕ → List Item) → (ℕ → Streams)
    → (ℕ → Streams) → Type 0
AreMade [] [] before after = (k : ℕ) → after k ≡ before k
AreMade (e ∷ events) (h ∷ histories) before after = (between : ℕ → Streams)
    × Makes e h before between × AreMade events histories between after
AreMade events histories before after = ⊥

-- ---- what happened to the slots

module _ {D : Type 0} (sight : D → Sight) (follows : D → Type 0) where
  -- the disks of these slots have followed the model so far
  abbrev pub AllFollowIn : List (List D) → Type 0
  AllFollowIn pairs = (k : ℕ) → k < length pairs → AllFollow follows (pair_at pairs k)

  -- a crash left these slots of those
  pub record ArePairsLeft (old left : List (List D)) : Type 0 where
    pub count : length left ≡ length old
    pub each : EachPair (λ k. AreLeftBy sight follows) old left

  -- it came at some moment from when they were given on
  pub record IsPairLeftSince (given back left : List D) : Type 0 where
    pub crash : (a b : List ℕ) → (slots_of sight left).first.may_leave a
        → (slots_of sight left).second.may_leave b
        → (slots_of sight back).first.left_since (slots_of sight given).first.moment a
        × (slots_of sight back).second.left_since (slots_of sight given).second.moment b

  pub record ArePairsLeftSince (given backs left : List (List D)) : Type 0 where
    pub count : length left ≡ length given
    pub each : (k : ℕ) → k < length given
        → IsPairLeftSince (pair_at given k) (pair_at backs k) (pair_at left k)

  -- after an event a crash left these slots
  abbrev pub AreLeftAfter : Event D → List (List D) → Type 0
  AreLeftAfter (Lived life) left = AreLeftAt sight follows life.ends left
  AreLeftAfter (Refused a) left = ArePairsLeft a.backs left
  AreLeftAfter (Killed a) left = ArePairsLeftSince a.given a.backs left
  AreLeftAfter (Split s) left = ArePairsLeft s.new_back left
  AreLeftAfter (Unsplit s) left = ArePairsLeftSince s.old s.old_back left

  -- `Ingester::open` refused these slots
  abbrev pub WasRefused : Attempt D → Type 0
  WasRefused a = (fault : OpenFault)
      × IsUnmade sight follows (length a.given) a.given a.backs fault

  -- or it would have opened them
  pub record WasOpened (a : Attempt D) : Type 0 where
    pub capacity : ℕ
    pub logs : List (Wal D)
    pub states : List Streams
    pub opened : AreOpenedFrom sight follows (length a.given) capacity 0 a.given logs states
    pub backs_are : a.backs ≡ map disks logs

  -- `split` wrote no old slot, whatever came of it
  pub record WroteNoOldSlot (s : Splitting D) : Type 0 where
    pub count : length s.old_back ≡ length s.old
    pub rests : EachPair (λ k. IsAtRest sight follows) s.old s.old_back
    pub follow : AllFollowIn s.old_back

  -- it read these old shards, of two slots each, and began these new ones
  pub record WasSplit (s : Splitting D) : Type 0 where
    pub old : WroteNoOldSlot s
    pub two_slots : (k : ℕ) → k < length s.old → length (pair_at s.old k) ≡ 2
    pub count : length s.new_back ≡ length s.new
    pub are_split : AreSplit sight follows s.cap s.old s.old_back s.new s.new_back
    pub follow : AllFollowIn s.new_back

  -- what contracts promise of an event, if the disks have followed the model
  abbrev pub IsEvent : Event D → Type 0
  IsEvent (Lived life) = IsLife sight follows life
  IsEvent (Refused a) = WasRefused a × AllFollowIn a.backs
  IsEvent (Killed a) = (WasRefused a ⊎ WasOpened a) × AllFollowIn a.backs
  IsEvent (Split s) = WasSplit s
  IsEvent (Unsplit s) = WroteNoOldSlot s

  -- events after this one, each over what a crash left of the one before
  abbrev pub AreEvents : Event D → List (Event D) → Type 0
  AreEvents e [] = IsEvent e
  AreEvents e (f ∷ events) = IsEvent e × AreLeftAfter e (given_to f) × AreEvents f events

  -- a crash left these slots after the last of them
  abbrev pub AreLeftLast : Event D → List (Event D) → List (List D) → Type 0
  AreLeftLast e [] left = AreLeftAfter e left
  AreLeftLast e (f ∷ events) left = AreLeftLast f events left

  -- over them the next opening has these streams, shard by shard
  pub record AreFoundLast (e : Event D) (events : List (Event D))
      (states : List Streams) : Type 0 where
    pub left : List (List D)
    pub crash : AreLeftLast e events left
    pub capacity : ℕ
    pub logs : List (Wal D)
    pub found : AreOpenedFrom sight follows (length left) capacity 0 left logs states
    pub follow : LogsFollow sight follows logs

  -- or it refuses those of shard k first, for this fault and with these counts
  pub record IsRefusedLast (e : Event D) (events : List (Event D)) (k : ℕ)
      (r : RefusedShard) : Type 0 where
    pub left : List (List D)
    pub crash : AreLeftLast e events left
    pub backs : List (List D)
    pub refused : IsFirstRefused sight follows (length left) k r.fault left backs
    pub follow : AllFollow follows refused.back
    pub before : r.failures_before ≡ failures_of (slots_of sight refused.given)
    pub after : r.failures_after ≡ failures_of (slots_of sight refused.back)

  -- the headline of each opening that lived
  abbrev pub AreHeadlinesOf : List (Event D) → List (ℕ → List Item) → Type 0
  AreHeadlinesOf [] [] = Unit {0}
  AreHeadlinesOf (Lived life ∷ events) (h ∷ histories) = IsHeadlineOf sight follows life h
      × AreHeadlinesOf events histories
  AreHeadlinesOf (e ∷ events) (h ∷ histories) = AreHeadlinesOf events histories
  AreHeadlinesOf events histories = ⊥

  -- Of each opening there are histories as the headline says. Whatever crash comes in the end, what is replayed is what
  -- a one-thread ingester has that began with what the first opening read, and went through all events; and nothing
  -- that a crash left is refused.
  pub record IsHeadlineOfEvents (first : Life D) (events : List (Event D)) : Type 0 where
    pub histories : List (ℕ → List Item)
    pub each : AreHeadlinesOf (Lived first ∷ events) histories
    pub whatever_crash_comes : (states : List Streams) → AreFoundLast (Lived first) events states
        → AreMade (Lived first ∷ events) histories (base_at first.opening.about) (map_at states)
    pub replay_gives : (k : ℕ) (r : RefusedShard) → IsRefusedLast (Lived first) events k r
        → IsForDeviceOrMemory r
