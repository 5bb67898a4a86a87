-- Turns that lead from one shard to another.
use Rattle.std.specs.Prelude.{◌≡◌, List, [], ◌∷◌}
use Rattle.disk.specs.Sight.{Sight}
use Rattle.wal.specs.Logs.{Follow, slots}
use Rattle.history.specs.Histories.{IsLegalAt, IsByPasses, doubt_of}
use Rattle.shard.specs.Keeping.{KeepsHistory}
use Rattle.shard.specs.Shards.{Sharded}
use Rattle.shard.specs.Turns.{Turn, IsTurn}

module _ {D : Type 0} (sight : D → Sight) (follows : D → Type 0) where
  -- what `Shard::apply_group` says
  pub record IsMade (t : Turn D) : Type 0 where
    pub turn : IsTurn sight follows t
    pub covered : Follow follows t.new.log
        → KeepsHistory (slots sight t.new.log) t.new.book (doubt_of t.new.book.items)
    pub legal : IsLegalAt t.new.book.about t.new.book.shard t.new.book.items
    pub by_passes : IsByPasses t.new.book.about.passes t.new.book.items

  -- these turns lead from one shard to another
  abbrev pub Lead : Sharded D → List (Turn D) → Sharded D → Type 0
  Lead start [] end = end ≡ start
  Lead start (t ∷ ts) end = (t.old ≡ start) × IsMade t × Lead t.new ts end
