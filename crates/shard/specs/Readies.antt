-- What streams answer to a call, and what is ready for it before any device call.
use Rattle.std.specs.Prelude.{◌≡◌, ◌⊎◌, ◌≤◌, ◌<◌, ◌+◌, ℕ, List, length, true, false, None}
use Rattle.std.specs.FinMap as finite
use Rattle.accept.specs.declared.limits.Limits.{Limits}
use Rattle.accept.specs.declared.call.Call.{Call}
use Rattle.accept.specs.declared.call.Reply.{Reply}
use Rattle.accept.specs.declared.call.Reply.TheVariants.{NoRoom}
use Rattle.accept.specs.Rooms.{Streams, room}
use Rattle.accept.specs.Histories.{changes, key_of, set_stream}
use Rattle.accept.specs.Calls.{answer_from, stream_after}
use Rattle.segment.specs.Versions.{latest_header}
use Rattle.segment.specs.Segments.{max_generation}
use Rattle.wal.specs.declared.log.Wal.{Wal}
use Rattle.wal.specs.Recovery.{IsSegmentBehind}
use Rattle.wal.specs.Logs.{owner}
use Rattle.streams.specs.Mapped.{Mapped, next_of}

-- what streams answer to a call, and what they have after it
abbrev pub answer_of : Limits → Streams → Call → Reply
answer_of limits m call = answer_from limits (finite.get m (key_of call)) call

abbrev pub after_of : Limits → Streams → Call → Streams
after_of limits m call =
    set_stream m (key_of call)
    (stream_after (finite.get m (key_of call)) call (answer_of limits m call))

-- nothing is to be written: the answer changes nothing, or there is no room
pub record IsUnchanged (limits : Limits) (cap : ℕ) (m : Streams) (call : Call)
    (r : Reply) : Type 0 where
  pub why : ((changes (answer_of limits m call) ≡ false) × (r ≡ answer_of limits m call))
      ⊎ ((changes (answer_of limits m call) ≡ true) × (cap < room (after_of limits m call))
      × (r ≡ NoRoom))

-- the prepared change is stored in memory, and these bytes are to be written as the segment of the next generation
pub record IsNextWritten {D : Type 0} (log : Wal D) (old new : Mapped)
    (written : List ℕ) : Type 0 where
  pub stored : new ≡ record { owner = old.owner; streams = next_of old; change = None }
  pub early : log.generation < max_generation
  pub has_place : 1 + length written ≤ log.cap
  pub segment : IsSegmentBehind (owner log) written (latest_header (log.generation + 1))
      (length written) (next_of old)

-- the change is stored in memory, and these bytes are to be written as the segment of the next generation
pub record IsNextSegment {D : Type 0} (limits : Limits) (log : Wal D) (old : Mapped) (call : Call)
    (new : Mapped)
    (written : List ℕ) (r : Reply) : Type 0 where
  pub owner_is : new.owner ≡ old.owner
  pub no_change : new.change ≡ None
  pub replied : r ≡ answer_of limits old.streams call
  pub next : new.streams ≡ after_of limits old.streams call
  pub early : log.generation < max_generation
  pub has_place : 1 + length written ≤ log.cap
  pub segment : IsSegmentBehind (owner log) written (latest_header (log.generation + 1))
      (length written) new.streams
