-- What becomes of a call that is judged after those of its group.
use Rattle.std.specs.Prelude.{◌≡◌, ℕ, ◌≤◌, ◌+◌, ◌^◌, List, length, true, None, Some}
use Rattle.accept.specs.declared.limits.Limits.{Limits}
use Rattle.accept.specs.declared.call.Call.{Call}
use Rattle.accept.specs.declared.call.Reply.{Reply}
use Rattle.accept.specs.OneStream.{AreLimits}
use Rattle.accept.specs.Rooms.{Streams, room}
use Rattle.accept.specs.Calls.{AreNumbers}
use Rattle.accept.specs.Histories.{changes, key_of}
use Rattle.segment.specs.ShardPlaces.{ShardPlace}
use Rattle.segment.specs.declared.record.Record.{Record}
use Rattle.segment.specs.Versions.{latest}
use Rattle.segment.specs.Spelling.{record_text, FitsRecord, IsHere}
use Rattle.segment.specs.Images.{then_record}
use Rattle.segment.specs.Segments.{allows}
use Rattle.segment.specs.Blocks.{Adds, EndsOpen}
use Rattle.wal.specs.declared.log.Wal.{Wal}
use Rattle.wal.specs.Logs.{FitsInUse}
use Rattle.history.specs.Handles.{Announced}
use Rattle.shard.specs.declared.first_jobs.Job.{Job}
use Rattle.shard.specs.declared.judging.Judged.{Judged}
use Rattle.shard.specs.declared.judging.Judged.TheVariants.{Quiet, Changing, Full, NoMemory}
use Rattle.shard.specs.declared.parts.Parts.{Parts}
use Rattle.streams.specs.declared.change.Rest.{Rest}
use Rattle.streams.specs.Changes.{change_of}
use Rattle.streams.specs.Preparing.{IsPreparedFor}
use Rattle.shard.specs.Readies.{answer_of, after_of, IsUnchanged}

-- the block has the record of the call's change more, which fits with it after the segment in use, and the change is
-- stored in memory
pub record IsJoined {D : Type 0} (limits : Limits) (log : Wal D) (owner : ShardPlace) (m : Streams)
    (call : Call)
    (n : Streams) (old new : List ℕ) (r : Reply) : Type 0 where
  pub changing : changes (answer_of limits m call) ≡ true
  pub replied : r ≡ answer_of limits m call
  pub next : n ≡ after_of limits m call
  pub has_room : room n ≤ log.cap
  pub moved : (q : Record) → change_of call r ≡ Some q → then_record m q ≡ n
  pub added : (q : Record) → change_of call r ≡ Some q
      → Adds q old new × FitsRecord latest owner q × (allows m q ≡ true)
  pub fits : (q : Record) → change_of call r ≡ Some q
      → FitsInUse log (length old + length (record_text latest q))

-- the answer changes something, and there is room for that, but the block with its record doesn't fit after the
-- segment in use
pub record IsTooLong {D : Type 0} (limits : Limits) (log : Wal D) (m : Streams) (call : Call)
    (old : List ℕ) : Type 0 where
  pub changing : changes (answer_of limits m call) ≡ true
  pub has_room : room (after_of limits m call) ≤ log.cap
  pub full : (q : Record) → change_of call (answer_of limits m call) ≡ Some q
      → ¬ FitsInUse log (length old + length (record_text latest q))

-- A call may be judged: no change is prepared, its stream is of this shard, and a block is open for its record.
pub record MayBeJudged {D : Type 0} (p : Parts D) (call : Call) : Type 0 where
  pub idle : p.states.change ≡ None
  pub limits : AreLimits p.limits
  pub numbers : AreNumbers call
  pub here : IsHere p.states.owner (key_of call)
  pub capacity : p.log.wal.cap ≤ 2 ^ 30
  pub is_open : EndsOpen p.buffer.items

-- The block with the job's record does not fit. Its change stays prepared, for this reply, and this is left of it.
pub record IsFullFor {D : Type 0} (old : Parts D) (job : Job) (new : Parts D) (ticket : Announced)
    (reply : Reply) (rest : Rest) : Type 0 where
  pub ticket_is : ticket ≡ job.ticket
  pub same_bytes : new.buffer.items ≡ old.buffer.items
  pub prepared : IsPreparedFor old.limits old.states job.call new.states reply rest
  pub long : IsTooLong old.limits old.log.wal old.states.streams job.call old.buffer.items

-- the states and the block are as before
abbrev pub IsUntouched : {D : Type 0} → Parts D → Parts D → Type 0
IsUntouched old new = (new.states ≡ old.states) × (new.buffer.items ≡ old.buffer.items)

-- what becomes of a job, by the parts before and after it
abbrev pub IsJudgedAs : {D : Type 0} → Parts D → Job → Parts D → Judged → Type 0
IsJudgedAs old job new (Quiet t r) = (t ≡ job.ticket) × IsUntouched old new
    × IsUnchanged old.limits old.log.wal.cap old.states.streams job.call r
IsJudgedAs old job new (Changing t r) = (t ≡ job.ticket) × (new.states.owner ≡ old.states.owner)
    × (new.states.change ≡ None)
    × IsJoined old.limits old.log.wal old.states.owner old.states.streams job.call
    new.states.streams old.buffer.items new.buffer.items r
IsJudgedAs old job new (Full t r rest) = IsFullFor old job new t r rest
IsJudgedAs old job new (NoMemory given) = (given ≡ job) × IsUntouched old new
