-- What a shard is.
use Rattle.std.specs.Prelude.{◌≡◌, ◌≤◌, ◌+◌, ◌^◌, Bool, true, false, None, [], length}
use Rattle.accept.specs.declared.limits.Limits.{Limits}
use Rattle.accept.specs.OneStream.{AreLimits}
use Rattle.accept.specs.Rooms.{Streams, segment_bytes, room}
use Rattle.accept.specs.Histories.{meaning, is_marked}
use Rattle.disk.specs.Sight.{Sight}
use Rattle.segment.specs.Fitting.{FitStreams}
use Rattle.wal.specs.declared.log.Wal.{Wal}
use Rattle.wal.specs.Moments.{HasFailed, HasNoFailure}
use Rattle.wal.specs.Logs.{Follow, slots, owner, IsOnDisk}
use Rattle.history.specs.Histories.{base_at, doubt_of}
use Rattle.history.specs.Handles.{Booked, history_in}
use Rattle.streams.specs.Mapped.{Mapped}
use Rattle.shard.specs.Keeping.{owner_in, KeepsHistory}

-- a shard as contracts see it: its log, its book, and the log as it was opened
pub record Sharded (D : Type 0) : Type 0 where
  pub log : Wal D
  pub book : Booked
  pub opened : Wal D

-- what a shard is made of: its log with the streams that stood in it, and a book over them without a step
pub record IsGround {D : Type 0} (sight : D → Sight) (follows : D → Type 0) (limits : Limits)
    (log : Wal D)
    (m : Streams) (book : Booked) : Type 0 where
  pub fresh : book.items ≡ []
  pub base : base_at book.about book.shard ≡ m
  pub same_limits : limits ≡ book.about.limits
  pub small_limits : AreLimits limits
  pub same_capacity : log.cap ≡ book.about.capacity
  pub small_capacity : log.cap ≤ 2 ^ 30
  pub same_owner : owner log ≡ owner_in book
  pub usable : log.failed ≡ false
  pub settled : Follow follows log → IsOnDisk sight log m
  pub fit : FitStreams (owner log) m
  pub small : room m ≤ 2 ^ 31 + segment_bytes

-- The flag, the limits, the states and the log are those of the book's history. Of the states nothing is said once a
-- device has failed.
pub record IsShard {D : Type 0} (sight : D → Sight) (follows : D → Type 0) (log : Wal D)
    (book : Booked)
    (opened : Wal D) (states : Mapped) (flag : Bool) (limits : Limits) : Type 0 where
  pub marked : flag ≡ is_marked book.items
  pub same_limits : limits ≡ book.about.limits
  pub small_limits : AreLimits limits
  pub same_capacity : log.cap ≡ book.about.capacity
  pub small_capacity : log.cap ≤ 2 ^ 30
  pub same_owner : owner log ≡ owner_in book
  pub states_owner : states.owner ≡ owner_in book
  pub no_change : flag ≡ false → states.change ≡ None
  pub means : flag ≡ false → meaning (history_in book) ≡ states.streams
  pub usable : flag ≡ false → log.failed ≡ false
  pub holds : flag ≡ false → Follow follows log → IsOnDisk sight log (meaning (history_in book))
  pub covers : Follow follows log → KeepsHistory (slots sight log) book (doubt_of book.items)
  pub not_failed : flag ≡ false → HasNoFailure (slots sight opened) (slots sight log)
  pub failed : flag ≡ true → HasFailed (slots sight opened) (slots sight log)
  pub before : Follow follows log → Follow follows opened
  -- each roll took a call
  pub rolled : flag ≡ false → log.generation ≤ opened.generation + length book.items
