-- What an opening has of its logs before its shards are made.
use Rattle.std.specs.Prelude.{◌≡◌, List, length}
use Rattle.accept.specs.Rooms.{Streams}
use Rattle.wal.specs.declared.log.Wal.{Wal}
use Rattle.history.specs.Handles.{about_of, fresh_book, fresh_books, fresh_passes}
use Rattle.owners.specs.Openings.{opening_of}
use Rattle.owners.specs.Plans.{IsPlan}
use Rattle.ingester.specs.declared.settings.Settings.{Settings}
use Rattle.ingester.specs.declared.opened.PlannedOpening.{PlannedOpening}

-- histories over these bases, as the settings say, with a plan for these logs
pub record IsPlannedOpening {D : Type 0} (settings : Settings) (ms : List Streams) (logs : List (Wal D))
    (it : PlannedOpening D) : Type 0 where
  pub books : it.books.items ≡ fresh_books it.history
      (about_of ms settings.passes settings.limits settings.capacity) (length ms)
  pub seats : it.seats.items ≡ fresh_passes it.history
      (about_of ms settings.passes settings.limits settings.capacity) settings.passes
  pub plan : IsPlan (opening_of (fresh_book it.history
      (about_of ms settings.passes settings.limits settings.capacity) 0) logs) it.plan
