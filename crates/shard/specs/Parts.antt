-- The parts of a shard, and what a call makes of them.
use Rattle.std.specs.Prelude.{◌≡◌, ◌⊎◌, ◌+◌, false}
use Rattle.accept.specs.declared.call.Call.{Call}
use Rattle.accept.specs.declared.call.Reply.{Reply}
use Rattle.accept.specs.declared.history.Ask.{Ask}
use Rattle.disk.specs.Sight.{Sight}
use Rattle.wal.specs.Moments.{PairLeavesOnly, HasNoFailure}
use Rattle.wal.specs.Logs.{Follow, slots}
use Rattle.history.specs.Histories.{doubt_of, step_of}
use Rattle.history.specs.Handles.{Announced, Received}
use Rattle.shard.specs.declared.fault.ApplyFault.{ApplyFault}
use Rattle.shard.specs.declared.fault.ApplyFault.TheVariants as faults
use Rattle.shard.specs.declared.parts.Parts.{Parts}
use Rattle.streams.specs.declared.change.Rest.{Rest}
use Rattle.streams.specs.Mapped.{Mapped}
use Rattle.streams.specs.Preparing.{IsPreparedFor}
use Rattle.shard.specs.Keeping.{moments, LeavesSince, IsAllowed}
use Rattle.shard.specs.Calls.{NeedsWrite, IsQuiet, FitsBehind, IsSpent, IsCommitted, IsMarkedInDoubt, MayLeave}
use Rattle.shard.specs.Shards.{Sharded, IsShard}
use Rattle.shard.specs.Readies.{IsNextSegment}

-- what contracts see of them
abbrev pub seen_of : {D : Type 0} → Parts D → Sharded D
seen_of p = record { log = p.log.wal; book = p.book; opened = p.opened.value }

-- the parts are those of a shard
abbrev pub ArePartsOf : {D : Type 0} → (D → Sight) → (D → Type 0) → Parts D → Type 0
ArePartsOf sight follows p =
    IsShard sight follows p.log.wal p.book p.opened.value p.states p.is_marked p.limits

-- The change of a call that does not fit after the segment in use is prepared, for this reply: all else is as before.
pub record MustRoll {D : Type 0} (sight : D → Sight) (follows : D → Type 0) (p : Parts D)
    (ask : Ask)
    (reply : Reply) : Type 0 where
  pub before : Mapped
  pub rest : Rest
  pub shard : IsShard sight follows p.log.wal p.book p.opened.value before false p.limits
  pub unmarked : p.is_marked ≡ false
  pub writes : NeedsWrite p.book ask.call
  pub full : ¬ FitsBehind p.log.wal p.book ask.call
  pub prepared : IsPreparedFor p.limits before ask.call p.states reply rest

-- The change of a call that does not fit after the segment in use is stored in memory, and the segment of the next
-- generation is ready: all else is as before.
pub record IsReadyToRoll {D : Type 0} (sight : D → Sight) (follows : D → Type 0) (p : Parts D)
    (ask : Ask)
    (reply : Reply) : Type 0 where
  pub before : Mapped
  pub shard : IsShard sight follows p.log.wal p.book p.opened.value before false p.limits
  pub unmarked : p.is_marked ≡ false
  pub writes : NeedsWrite p.book ask.call
  pub full : ¬ FitsBehind p.log.wal p.book ask.call
  pub next : IsNextSegment p.limits p.log.wal before ask.call p.states p.buffer.items reply

-- The call is refused: its ticket comes back, and all else is as before.
pub record IsRefusedCall {D : Type 0} (old new : Sharded D) (ticket : Announced) (call : Call)
    (fault : ApplyFault) (back : Announced) : Type 0 where
  pub same : new ≡ old
  pub back_is : back ≡ ticket
  pub spent : fault ≡ faults.GenerationSpent → IsSpent old.log old.opened old.book call

-- The call has its step. A change whose record fits after the segment in use was appended, and no other. From the
-- moment that the receipt names, a crash leaves only what the new history allows.
pub record IsApplied {D : Type 0} (sight : D → Sight) (follows : D → Type 0) (old new : Sharded D)
    (ticket : Announced)
    (reply : Reply) (receipt : Received) : Type 0 where
  pub step : IsCommitted (slots sight old.log) (slots sight new.log) old.book ticket new.book reply
      ⊎ IsMarkedInDoubt (slots sight old.log) (slots sight new.log) old.book ticket new.book reply
  pub quiet : IsQuiet old.book ticket.ask.call → new.log ≡ old.log
  pub before : Follow follows new.log → Follow follows old.log
  pub any_moment : Follow follows new.log
      → PairLeavesOnly (slots sight old.log) (slots sight new.log)
      (MayLeave old.book ticket.ask.call)
  pub receipt_is : receipt ≡ record {
    table = ticket.table;
    step = step_of ticket.ask reply;
    upto = new.book.items;
    moment = moments (slots sight new.log);
  }
  pub since : Follow follows new.log
      → LeavesSince (moments (slots sight new.log)) (slots sight new.log)
      (IsAllowed new.book (doubt_of new.book.items))
  pub appended : FitsBehind old.log old.book ticket.ask.call
      → new.log.generation ≡ old.log.generation
  pub rolled : NeedsWrite old.book ticket.ask.call → ¬ FitsBehind old.log old.book ticket.ask.call
      → HasNoFailure (slots sight old.log) (slots sight new.log)
      → new.log.generation ≡ old.log.generation + 1
  pub opened : new.opened ≡ old.opened
