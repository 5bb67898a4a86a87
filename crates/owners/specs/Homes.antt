-- An opening without its disks.
use Rattle.atomic_table.specs.Seated.{TableId}
use Rattle.history.specs.declared.views.About.{About}
use Rattle.history.specs.Handles.{Booked, Passed}

-- the table of the histories, and what was opened
pub record Homed : Type 0 where
  pub table : TableId
  pub about : About

abbrev pub home_with : Booked → Homed
home_with first = record { table = first.table; about = first.about }

-- the opening of a pass
abbrev pub home_at : Passed → Homed
home_at pass = record { table = pass.table; about = pass.caller.about }
