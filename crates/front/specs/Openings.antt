-- How programs open and close shards.
use Rattle.std.specs.Prelude.{◌≡◌, ℕ, List, length, Option, None, Some}
use Rattle.accept.specs.declared.limits.Limits.{Limits}
use Rattle.accept.specs.Rooms.{Streams}
use Rattle.disk.specs.declared.file.FileDisk.{FileDisk}
use Rattle.wal.specs.declared.log.Wal.{Wal}
use Rattle.openings.specs.Findings.{AreOpenedFrom}
use Rattle.history.specs.Handles.{Passed}
use Rattle.owners.specs.Openings.{Opening}
use Rattle.ingester.specs.Openings.{AreFresh}
use Rattle.ingester.specs.Closings.{Handed}
use Rattle.programs.specs.declared.watched.Watched.{Watched}
use Rattle.programs.specs.Slots.{slot_sight, SlotFollows, AreUntouched}

-- This many shards, under these limits, whose segments may have this many bytes, and this many passes, which have seen
-- and made nothing.
pub record IsOpenedUnder {D : Type 0} (limits : Limits) (shards workers capacity : ℕ)
    (opening : Opening D) (passes : List Passed)
    : Type 0 where
  pub limits_are : opening.about.limits ≡ limits
  pub shards_are : opening.about.shards ≡ shards
  pub capacity_is : opening.about.capacity ≡ capacity
  pub passes_are : opening.about.passes ≡ workers
  pub fresh : AreFresh opening workers passes

-- These streams stood in slots of a folder, on which no call had been made when the logs of this many shards were opened
-- over them.
pub record IsOverUntouched (shards capacity : ℕ) (bases : List Streams) : Type 0 where
  pub slots : List (List (Watched FileDisk))
  pub untouched : AreUntouched slots
  pub count : length slots ≡ shards
  pub logs : List (Wal (Watched FileDisk))
  pub found : AreOpenedFrom slot_sight SlotFollows shards capacity 0 slots logs bases

-- what closing by these passes left: nothing where there is none, else all shards, as their owners left them
abbrev pub IsLeftByClosing : {D : Type 0} → Opening D → List Passed → Option (Handed D) → Type 0
IsLeftByClosing opening passes None = length passes ≡ 0
IsLeftByClosing opening passes (Some closed) =
    closed ≡ record { opening = opening; passes = passes; left = opening.about.shards }
