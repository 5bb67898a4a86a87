-- What close hands out.
use Rattle.std.specs.Prelude.{◌≡◌, ℕ, ◌<◌, List, Bool, true, false, Some, length, slice_get}
use Rattle.accept.specs.declared.history.Item.{Item}
use Rattle.accept.specs.Histories.{is_marked}
use Rattle.disk.specs.Sight.{Sight}
use Rattle.segment.specs.ShardPlaces.{place_of}
use Rattle.wal.specs.declared.log.Wal.{Wal}
use Rattle.wal.specs.Moments.{HasFailed, HasNoFailure}
use Rattle.wal.specs.Logs.{Follow, slots}
use Rattle.wal.specs.Covers.{Covers}
use Rattle.wal.specs.Opening.{slots_of, disks, AllFollow}
use Rattle.history.specs.Histories.{IsBeginning, IsLegalAt, IsByPasses, doubt_of, history_of}
use Rattle.history.specs.Plays.{seen_at, HasStepsOf}
use Rattle.history.specs.Handles.{Booked, Passed}
use Rattle.shard.specs.Shards.{Sharded}
use Rattle.shard.specs.Turns.{Turn}
use Rattle.shard.specs.Leads.{Lead}
use Rattle.owners.specs.Openings.{Opening}
use Rattle.owners.specs.Places.{IsOf, opened_shard}

-- what close leaves: the opening, the passes that were handed in, and how many shards are left
pub record Handed (D : Type 0) : Type 0 where
  pub opening : Opening D
  pub passes : List Passed
  pub left : ℕ

-- the history begins with what the pass has seen, and has of it just its steps
pub record IsTold (k : ℕ) (items : List Item) (pass : Passed) : Type 0 where
  pub begins : IsBeginning (seen_at pass.caller k) items
  pub steps : HasStepsOf pass.caller k items

-- One legal history of shard k over what its opening found, which the slots keep. It has no steps but those of the
-- opening's passes, and turns lead to the shard that has it from what was opened. What was opened followed the model
-- where this does.
pub record IsHandedOut {D : Type 0} (sight : D → Sight) (follows : D → Type 0) (opening : Opening D)
    (passes : List Passed) (k : ℕ) (handed : List D × Bool) : Type 0 where
  pub items : List Item
  pub legal : IsLegalAt opening.about k items
  pub told : (i : ℕ) (pass : Passed) → slice_get passes i ≡ Some pass → IsTold k items pass
  pub by_passes : IsByPasses opening.about.passes items
  pub marked_is : handed.1 ≡ is_marked items
  pub covers : AllFollow follows handed.0
      → Covers (place_of k opening.about.shards) opening.about.limits (slots_of sight handed.0)
      (history_of opening.about k items) (doubt_of items)
  pub opened : Wal D
  pub opened_as : slice_get opening.logs k ≡ Some opened
  pub before : AllFollow follows handed.0 → Follow follows opened
  pub failed : handed.1 ≡ true → HasFailed (slots sight opened) (slots_of sight handed.0)
  pub not_failed : handed.1 ≡ false → HasNoFailure (slots sight opened) (slots_of sight handed.0)
  pub shard : Sharded D
  pub items_are : items ≡ shard.book.items
  pub slots_are : handed.0 ≡ disks shard.log
  pub turns : List (Turn D)
  pub turned : Lead sight follows (opened_shard opening k opened) turns shard

-- a book was compared with a pass
pub record IsComparedTo (book : Booked) (pass : Passed) : Type 0 where
  pub legal : IsLegalAt book.about book.shard book.items
  pub by_passes : IsByPasses book.about.passes book.items
  pub told : IsTold book.shard book.items pass

-- with each of the first n passes
abbrev pub AreComparedTo : Booked → List Passed → ℕ → Type 0
AreComparedTo book passes n = (i : ℕ) (pass : Passed) → i < n → slice_get passes i ≡ Some pass
    → IsComparedTo book pass

module _ {D : Type 0} (sight : D → Sight) (follows : D → Type 0) where
  -- shard k of the opening, compared with all passes
  pub record IsLast (opening : Opening D) (passes : List Passed) (k : ℕ)
      (shard : Sharded D) : Type 0 where
    pub is_of : IsOf sight follows opening k shard
    pub compared : AreComparedTo shard.book passes (length passes)

  -- so is each of these shards, and there is a pass
  pub record AreLast (opening : Opening D) (passes : List Passed)
      (shards : List (Sharded D)) : Type 0 where
    pub some_pass : 0 < length passes
    pub each : (k : ℕ) (shard : Sharded D) → slice_get shards k ≡ Some shard
        → IsLast opening passes k shard
