-- Shards that are made of opened logs.
use Rattle.std.specs.Prelude.{◌≡◌, ℕ, List, [], ◌∷◌, Option, Some, None, slice_get}
use Rattle.atomic_table.specs.Seated.{TableId}
use Rattle.accept.specs.declared.limits.Limits.{Limits}
use Rattle.accept.specs.Rooms.{Streams}
use Rattle.disk.specs.Sight.{Sight}
use Rattle.wal.specs.declared.log.Wal.{Wal}
use Rattle.history.specs.Handles.{Booked}
use Rattle.shard.specs.Shards.{Sharded, IsGround}

-- each log, with its streams and its book, is what a shard is made of
abbrev pub AreGround : {D : Type 0} → (D → Sight) → (D → Type 0) → Limits → List (Wal D)
    → List Streams → List Booked
    → Type 0
AreGround {D} sight follows limits logs ms books =
    (k : ℕ) (log : Wal D) (m : Streams) (book : Booked)
    → slice_get logs k ≡ Some log → slice_get ms k ≡ Some m → slice_get books k ≡ Some book
    → IsGround sight follows limits log m book

-- a shard of each log and its book
abbrev pub AreShardsOfLogs : {D : Type 0} → List (Option (Sharded D)) → List (Wal D) → List Booked
    → Type 0
AreShardsOfLogs [] [] [] = Unit {0}
AreShardsOfLogs (Some shard ∷ shards) (log ∷ logs) (book ∷ books) =
    (shard ≡ record { log = log; book = book; opened = log })
    × AreShardsOfLogs shards logs books
AreShardsOfLogs shards logs books = ⊥

-- the books are of this table
abbrev pub AreBooksIn : TableId → List Booked → Type 0
AreBooksIn table [] = Unit {0}
AreBooksIn table (book ∷ books) = (book.table ≡ table) × AreBooksIn table books

-- each shard is there, with a book of this table
abbrev pub AreShardsIn : {D : Type 0} → TableId → List (Option (Sharded D)) → Type 0
AreShardsIn table [] = Unit {0}
AreShardsIn table (Some shard ∷ shards) = (shard.book.table ≡ table) × AreShardsIn table shards
AreShardsIn table (None ∷ shards) = ⊥

-- the logs of shards
abbrev pub logs_of_shards : {D : Type 0} → List (Option (Sharded D)) → List (Wal D)
logs_of_shards [] = []
logs_of_shards (Some shard ∷ shards) = shard.log ∷ logs_of_shards shards
logs_of_shards (None ∷ shards) = logs_of_shards shards
