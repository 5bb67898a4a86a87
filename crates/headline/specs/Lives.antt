-- An opening until it is closed or a crash comes, and what is then left of its slots.
use Rattle.std.specs.Prelude.{◌≡◌, ℕ, ◌≤◌, List, [], ◌∷◌, Bool, Option, Some, None, length, slice_get}
use Rattle.headline.specs.Types.{Streams, Limits, Ask, Item, Sight, Wal, Opening}
use Rattle.segment.specs.ShardPlaces.{place_of}
use Rattle.wal.specs.Recovery.{Recovers}
use Rattle.wal.specs.Moments.{Pair, HasFailed}
use Rattle.wal.specs.Logs.{Follow, slots}
use Rattle.wal.specs.Opening.{slots_of, AllFollow, PairRests}
use Rattle.history.specs.Histories.{doubt_of}
use Rattle.history.specs.Handles.{about_of}
use Rattle.openings.specs.Findings.{AreOpenedFrom, IsFirstRefused}
use Rattle.ingester.specs.Closings.{IsHandedOut}
use Rattle.headline.specs.Threads.{Thread, IsThread, last_passes}
use Rattle.headline.specs.Headline.{IsOneOf, RefusedShard, IsHeadline}
use Rattle.headline.specs.Turns.{Stretch, IsStretch, IsLeftThen, shard_then, writing_then}

-- The end of a shard: `Closed::take` handed out its slots, or a crash came at some moment before.
pub data ShardEnd (D : Type 0) : Type 0 where
  HandedOut : List D × Bool → ShardEnd D
  CutAt : Stretch D → ShardEnd D

-- An opening: over which slots, what happened to its passes, and how each shard ended.
pub record Life (D : Type 0) : Type 0 where
  pub given : List (List D)
  pub opening : Opening D
  pub threads : List Thread
  pub ends : List (ShardEnd D)

-- the calls that are then being written, where these items are the shard's history
abbrev pub writing_at : {D : Type 0} → Option (ShardEnd D) → List Item → List Ask
writing_at None items = []
writing_at (Some (HandedOut it)) items = doubt_of items
writing_at (Some (CutAt st)) items = writing_then st.moment

abbrev pub writing_in : {D : Type 0} → List (ShardEnd D) → (ℕ → List Item) → ℕ → List Ask
writing_in ends history k = writing_at (slice_get ends k) (history k)

-- A crash left the new disk of the old one: what may be left of it from now on might have been left of the old one. So
-- it is where nothing happened in between, and where one of the contents that the old disk may leave is all there is.
pub record IsLeftBy (old new : Sight) : Type 0 where
  pub crash : (c : List ℕ) → new.may_leave c → old.may_leave c

-- how many calls on slot 0 and slot 1 have failed
abbrev pub failures_of : Pair → ℕ × ℕ
failures_of slots = (slots.first.failures, slots.second.failures)

module _ {D : Type 0} (sight : D → Sight) (follows : D → Type 0) where
  -- each disk of these
  abbrev pub AreLeftBy : List D → List D → Type 0
  AreLeftBy [] [] = Unit {0}
  AreLeftBy (old ∷ olds) (new ∷ news) = IsLeftBy (sight old) (sight new) × AreLeftBy olds news
  AreLeftBy olds news = ⊥

  -- a crash left these slots of a shard
  abbrev pub LeftAt : ShardEnd D → List D → Type 0
  LeftAt (HandedOut it) left = AreLeftBy it.0 left
  LeftAt (CutAt st) left = IsLeftThen sight follows st.moment left

  -- and of each shard
  abbrev pub AreLeftAt : List (ShardEnd D) → List (List D) → Type 0
  AreLeftAt [] [] = Unit {0}
  AreLeftAt (end ∷ ends) (left ∷ all) = LeftAt end left × AreLeftAt ends all
  AreLeftAt ends all = ⊥

  -- the disks of these logs have followed the model so far
  abbrev pub LogsFollow : List (Wal D) → Type 0
  LogsFollow [] = Unit {0}
  LogsFollow (log ∷ logs) = Follow follows log × LogsFollow logs

  -- What is so of the end of shard k. Of slots that were handed out, the disks have followed the model.
  abbrev pub IsEnd : Opening D → List Thread → ℕ → ShardEnd D → Type 0
  IsEnd opening threads k (HandedOut it) =
      IsHandedOut sight follows opening (last_passes threads) k it × AllFollow follows it.0
  IsEnd opening threads k (CutAt st) = IsStretch sight follows opening threads k st

  -- `Ingester::open` made the opening over these slots, this happened to its passes, and so its shards ended.
  pub record IsLife (life : Life D) : Type 0 where
    pub passes : ℕ
    pub limits : Limits
    pub capacity : ℕ
    pub some_shard : 1 ≤ length life.given
    pub shards : life.opening.about.shards ≡ length life.given
    pub found : AreOpenedFrom sight follows
        (length life.given) capacity 0 life.given life.opening.logs
        life.opening.about.bases
    pub about : life.opening.about ≡ about_of life.opening.about.bases passes limits capacity
    pub threads_are : (t : Thread) → IsOneOf t life.threads → IsThread life.opening t
    pub ends_of_all : length life.ends ≡ length life.given
    pub ends_are : (k : ℕ) (end : ShardEnd D) → slice_get life.ends k ≡ Some end
        → IsEnd life.opening life.threads k end

  -- these streams stood in the slots over which shard k was opened
  pub record WereRead (life : Life D) (k : ℕ) (m : Streams) : Type 0 where
    pub given : List D
    pub given_as : slice_get life.given k ≡ Some given
    pub stood : Recovers (place_of k (length life.given)) (slots_of sight given).first.seen
        (slots_of sight given).second.seen m

  -- both slots at the end of a shard, or at the start of the turn that was cut
  abbrev pub slots_then : ShardEnd D → Pair
  slots_then (HandedOut it) = slots_of sight it.0
  slots_then (CutAt st) = slots sight (shard_then st.moment).log

  -- a call on a slot of shard k has failed between the opening and then
  pub record HasFailedSince (life : Life D) (k : ℕ) : Type 0 where
    pub opened : Wal D
    pub opened_as : slice_get life.opening.logs k ≡ Some opened
    pub end : ShardEnd D
    pub ended_as : slice_get life.ends k ≡ Some end
    pub failed : HasFailed (slots sight opened) (slots_then end)

  -- a crash left slots over which the next opening has these streams of shard k
  pub record MayBeReplayed (ends : List (ShardEnd D)) (k : ℕ) (state : Streams) : Type 0 where
    pub left : List (List D)
    pub crash : AreLeftAt ends left
    pub capacity : ℕ
    pub logs : List (Wal D)
    pub states : List Streams
    pub found : AreOpenedFrom sight follows (length left) capacity 0 left logs states
    pub follow : LogsFollow logs
    pub there : slice_get states k ≡ Some state

  -- A crash left slots of which the next opening refuses those of shard k first, for this fault and with these counts.
  -- Their disks have followed the model.
  pub record MayBeRefused (ends : List (ShardEnd D)) (k : ℕ) (r : RefusedShard) : Type 0 where
    pub left : List (List D)
    pub crash : AreLeftAt ends left
    pub backs : List (List D)
    pub refused : IsFirstRefused sight follows (length left) k r.fault left backs
    pub follow : AllFollow follows refused.back
    pub before : r.failures_before ≡ failures_of (slots_of sight refused.given)
    pub after : r.failures_after ≡ failures_of (slots_of sight refused.back)

  -- the headline, of this opening and these histories
  abbrev pub IsHeadlineOf : Life D → (ℕ → List Item) → Type 0
  IsHeadlineOf life history =
      IsHeadline life.opening.about life.threads history (writing_in life.ends history)
      (WereRead life)
      (HasFailedSince life)
      (MayBeReplayed life.ends)
      (MayBeRefused life.ends)

  -- its owner had made no turn when shard k ended so
  abbrev pub MadeNoTurn : (opening : Opening D) (threads : List Thread) (k : ℕ) (end : ShardEnd D)
      → IsEnd opening threads k end → Type 0
  MadeNoTurn opening threads k (HandedOut it) is = is.0.turns ≡ []
  MadeNoTurn opening threads k (CutAt st) is = st.turns ≡ []

  -- From the beginning of the opening until a shard's first turn nothing is written: at each moment a crash leaves of
  -- its slots only what it could have left when the opening began.
  abbrev pub WritesNothingBefore : (life : Life D) → IsLife life → Type 0
  WritesNothingBefore life is = (k : ℕ) (end : ShardEnd D) (ends : slice_get life.ends k ≡ Some end)
      → MadeNoTurn life.opening life.threads k end (is.ends_are k end ends)
      → (given : List D) → slice_get life.given k ≡ Some given
      → PairRests (slots_of sight given) (slots_then end)
