-- The shards of an opening.
use Rattle.std.specs.Prelude.{◌≡◌, ℕ, List, Option, Some, None, slice_get}
use Rattle.disk.specs.Sight.{Sight}
use Rattle.wal.specs.declared.log.Wal.{Wal}
use Rattle.history.specs.Handles.{fresh_book}
use Rattle.shard.specs.Shards.{Sharded}
use Rattle.shard.specs.Turns.{Turn}
use Rattle.owners.specs.Openings.{Opening}
use Rattle.shard.specs.Leads.{Lead}
use Rattle.owners.specs.Lists.{AreEach}

-- shard k over this log, before any turn
abbrev pub opened_shard : {D : Type 0} → Opening D → ℕ → Wal D → Sharded D
opened_shard opening k log =
    record { log = log; book = fresh_book opening.table opening.about k; opened = log }

module _ {D : Type 0} (sight : D → Sight) (follows : D → Type 0) where
  -- shard k of the opening: turns lead to it from what was opened
  pub record IsOf (opening : Opening D) (k : ℕ) (shard : Sharded D) : Type 0 where
    pub table : shard.book.table ≡ opening.table
    pub about : shard.book.about ≡ opening.about
    pub number : shard.book.shard ≡ k
    pub opened : slice_get opening.logs k ≡ Some shard.opened
    pub turns : List (Turn D)
    pub turned : Lead sight follows (opened_shard opening k shard.opened) turns shard

  -- it is there
  abbrev pub IsShardAt : Opening D → ℕ → Option (Sharded D) → Type 0
  IsShardAt opening k None = ⊥
  IsShardAt opening k (Some shard) = IsOf opening k shard

  -- so is each, by its number
  abbrev pub AreShardsOf : Opening D → List (Option (Sharded D)) → Type 0
  AreShardsOf opening = AreEach (IsShardAt opening) 0
