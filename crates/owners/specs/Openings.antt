-- What was opened.
use Rattle.std.specs.Prelude.{List}
use Rattle.atomic_table.specs.Seated.{TableId}
use Rattle.wal.specs.declared.log.Wal.{Wal}
use Rattle.history.specs.declared.views.About.{About}
use Rattle.history.specs.Handles.{Booked}
use Rattle.owners.specs.Homes.{Homed}

-- an opening as contracts see it: the table of its histories, what was opened, and each shard's log as it was then
pub record Opening (D : Type 0) : Type 0 where
  pub table : TableId
  pub about : About
  pub logs : List (Wal D)

abbrev pub opening_of : {D : Type 0} → Booked → List (Wal D) → Opening D
opening_of first logs = record { table = first.table; about = first.about; logs = logs }

-- an opening without its disks
abbrev pub home_of : {D : Type 0} → Opening D → Homed
home_of opening = record {
  table = opening.table;
  about = opening.about;
}
