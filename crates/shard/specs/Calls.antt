-- What a call is to a book, and what becomes of both.
use Rattle.std.specs.Prelude.{◌≡◌, ◌⊎◌, ◌≤◌, ◌+◌, ◌*◌, ℕ, nat_lt, List, [], ◌∷◌, length, true, false, Option, Some, None, if◌then◌else◌}
use Rattle.accept.specs.declared.call.Call.{Call}
use Rattle.accept.specs.declared.call.Reply.{Reply}
use Rattle.accept.specs.declared.call.Reply.TheVariants.{NoRoom, Unavailable}
use Rattle.accept.specs.declared.history.Item.TheVariants.{Answered, Failed}
use Rattle.accept.specs.Rooms.{Streams, room}
use Rattle.accept.specs.Histories.{answer, after, meaning, changes, is_marked}
use Rattle.segment.specs.declared.record.Record.{Record}
use Rattle.segment.specs.Versions.{latest}
use Rattle.segment.specs.Spelling.{frame}
use Rattle.segment.specs.Segments.{max_generation}
use Rattle.wal.specs.declared.log.Wal.{Wal}
use Rattle.wal.specs.Recovery.{Recovers}
use Rattle.wal.specs.Moments.{Pair, HasFailed, HasNoFailure}
use Rattle.wal.specs.Logs.{FitsInUse}
use Rattle.history.specs.Histories.{IsLegalAt, IsByPasses, doubt_of, reply_of, step_of, bound}
use Rattle.history.specs.Handles.{Booked, Announced, history_in, longer}
use Rattle.streams.specs.Changes.{change_of}
use Rattle.shard.specs.declared.fault.ApplyFault.{ApplyFault}
use Rattle.shard.specs.declared.fault.ApplyFault.TheVariants.{Memory, GenerationSpent}
use Rattle.shard.specs.Keeping.{owner_in, IsAllowed}

-- what is answered to the call, what all streams have once it is answered, and what is replied
abbrev pub answer_in : Booked → Call → Reply
answer_in book call = answer book.about.limits (history_in book) call

abbrev pub after_in : Booked → Call → Streams
after_in book call = after book.about.limits (history_in book) call

abbrev pub reply_in : Booked → Call → Reply
reply_in book call = reply_of book.about book.shard book.items call

-- the call is answered, its answer changes something, and there is room for that
pub record NeedsWrite (book : Booked) (call : Call) : Type 0 where
  pub unmarked : is_marked book.items ≡ false
  pub changing : changes (answer_in book call) ≡ true
  pub has_room : room (after_in book call) ≤ book.about.capacity

-- the call is refused, or changes nothing
abbrev pub IsQuiet : Booked → Call → Type 0
IsQuiet book call = (reply_in book call ≡ Unavailable)
    ⊎ ((reply_in book call ≡ NoRoom) ⊎ (after_in book call ≡ meaning (history_in book)))

-- how many bytes a change takes as a block with its closing gate
abbrev pub block_length : Option Record → ℕ
block_length None = 0
block_length (Some record_of_change) = length (frame latest (record_of_change ∷ [])) + 1

-- the call's change, as a block, fits after the segment in use
abbrev pub FitsBehind : {D : Type 0} → Wal D → Booked → Call → Type 0
FitsBehind log book call = FitsInUse log (block_length (change_of call (answer_in book call)))

-- why a roll of a log of this generation is refused: after the last one there is none, else there was no memory
abbrev pub roll_fault : ℕ → ApplyFault
roll_fault generation = if nat_lt generation max_generation then Memory else GenerationSpent

-- The log was opened so late that a history of its opening may have rolled it to the last generation.
abbrev pub IsLate : {D : Type 0} → Wal D → Booked → Type 0
IsLate opened book = max_generation ≤ opened.generation + (book.about.passes * bound + 1)

-- The call writes, and its block would have to go into a generation after the last. Each roll since the log was opened
-- took a call of the history, which is legal, so the log was opened late.
pub record IsSpent {D : Type 0} (log opened : Wal D) (book : Booked) (call : Call) : Type 0 where
  pub last : max_generation ≤ log.generation
  pub writes : NeedsWrite book call
  pub full : ¬ FitsBehind log book call
  pub legal : IsLegalAt book.about book.shard book.items
  pub by_passes : IsByPasses book.about.passes book.items
  pub rolled : log.generation ≤ opened.generation + length book.items
  pub late : IsLate opened book

-- The call has its step, and no device call failed.
pub record IsCommitted (old new : Pair) (before : Booked) (ticket : Announced) (behind : Booked)
    (reply : Reply) : Type 0 where
  pub no_failure : HasNoFailure old new
  pub replied : reply ≡ reply_in before ticket.ask.call
  pub book : behind ≡ longer before (Answered (step_of ticket.ask reply))

-- A device call failed: a mark with this one call stands before its step.
pub record IsMarkedInDoubt (old new : Pair) (before : Booked) (ticket : Announced) (behind : Booked)
    (reply : Reply) : Type 0 where
  pub failure : HasFailed old new
  pub unmarked : is_marked before.items ≡ false
  pub replied : reply ≡ Unavailable
  pub book : behind ≡ longer (longer before (Failed (ticket.ask ∷ [])))
      (Answered (step_of ticket.ask Unavailable))

-- What a crash may leave while the call is on its way: what was allowed at its start, or, where it writes, what stands
-- for the streams after it.
abbrev pub MayLeave : Booked → Call → List ℕ → List ℕ → Type 0
MayLeave book call a b = IsAllowed book (doubt_of book.items) a b
    ⊎ (NeedsWrite book call × Recovers (owner_in book) a b (after_in book call))
