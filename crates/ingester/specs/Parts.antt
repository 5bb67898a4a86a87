-- What an ingester has.
use Rattle.std.specs.Prelude.{◌≡◌, ℕ}
use Rattle.atomic_table.specs.Seated.{TableId}
use Rattle.keyed.specs.declared.aside.Aside.{Aside}
use Rattle.keyed.specs.Asides.{key_aside}
use Rattle.owners.specs.Openings.{Opening}
use Rattle.ingester.specs.Openings.{IsOpening}

-- of one opening: the histories, what closing needs, and this number of shards
pub record HasParts {D T P : Type 0} (table : TableId) (closing : Aside T (Opening D) P) (count : ℕ)
    (opening : Opening D) : Type 0 where
  pub is_opening : IsOpening table opening count
  pub closing_is : key_aside closing ≡ opening
