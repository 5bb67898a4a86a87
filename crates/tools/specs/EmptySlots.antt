-- Slots that hold nothing yet.
use Rattle.std.specs.Prelude.{◌≡◌, List, [], ◌∷◌}
use Rattle.disk.specs.Sight.{Sight, IsSynced}

-- no byte stands there, whatever crash comes
pub record IsEmptyDisk (disk : Sight) : Type 0 where
  pub none : disk.seen ≡ []
  pub synced : IsSynced disk

-- the two slots of one shard, both empty
pub record AreEmptySlots {D : Type 0} (sight : D → Sight) (slots : List (List D)) : Type 0 where
  pub first : D
  pub second : D
  pub slots_are : slots ≡ (first ∷ second ∷ []) ∷ []
  pub first_empty : IsEmptyDisk (sight first)
  pub second_empty : IsEmptyDisk (sight second)
