-- What a turn at some jobs makes of a shard: the first of them are written at once, or the first goes alone.
use Rattle.std.specs.Prelude.{◌≡◌, ◌≢◌, ◌⊎◌, ◌≤◌, ℕ, List, [], ◌∷◌, ◌++◌, length}
use Rattle.accept.specs.declared.call.Reply.{Reply}
use Rattle.disk.specs.Sight.{Sight}
use Rattle.wal.specs.Moments.{PairLeavesOnly, HasFailed, HasNoFailure}
use Rattle.wal.specs.Logs.{Follow, slots}
use Rattle.history.specs.Histories.{doubt_of}
use Rattle.history.specs.Handles.{Booked, Announced, Received, AreOf, asks_of}
use Rattle.shard.specs.declared.fault.ApplyFault.{ApplyFault}
use Rattle.shard.specs.declared.fault.ApplyFault.TheVariants as faults
use Rattle.shard.specs.declared.first_jobs.Job.{Job}
use Rattle.shard.specs.declared.first_jobs.GroupEnd.{GroupEnd}
use Rattle.shard.specs.declared.first_jobs.GroupEnd.TheVariants.{Most, Last, Full, Memory}
use Rattle.shard.specs.declared.group.Settled.{Settled}
use Rattle.shard.specs.declared.group.Settled.TheVariants as settled
use Rattle.shard.specs.Keeping.{moments, LeavesSince, IsAllowed}
use Rattle.shard.specs.Calls.{NeedsWrite, FitsBehind, roll_fault, IsSpent}
use Rattle.shard.specs.Groups.{with_steps, changing_of, marked_by, FitsAfter, MayLeaveAll}
use Rattle.shard.specs.Jobs.{max_turn, tickets_of, jobs_by, jobs_but, AreLawful, AreInPassTurn}
use Rattle.shard.specs.Parts.{IsApplied}
use Rattle.shard.specs.Queues.{settled_of}
use Rattle.shard.specs.Shards.{Sharded}

-- A turn: the shard before and after it, the jobs and those that are left, what was settled before and what is settled
-- now, and why the turn ended.
pub record Turn (D : Type 0) : Type 0 where
  pub old : Sharded D
  pub new : Sharded D
  pub jobs : List Job
  pub rest : List Job
  pub was : List Settled
  pub now : List Settled
  pub ended : GroupEnd

-- of a turn, the shard and what is settled, before and after
pub record Span (D : Type 0) : Type 0 where
  pub old : Sharded D
  pub new : Sharded D
  pub was : List Settled
  pub now : List Settled

abbrev pub span_of : {D : Type 0} → Turn D → Span D
span_of t = record { old = t.old; new = t.new; was = t.was; now = t.now }

-- Each call has its step, and no device call failed; or one failed, and each call is refused after the mark.
abbrev pub AreStepped : {D : Type 0} → (D → Sight) → Span D → List Announced → Type 0
AreStepped sight s tickets =
    let moment : ℕ × ℕ = moments (slots sight s.new.log) in
    let marked : Booked = marked_by s.old.book (asks_of tickets) in
    (HasNoFailure (slots sight s.old.log) (slots sight s.new.log)
    × (s.new.book ≡ with_steps s.old.book (asks_of tickets))
    × (s.now ≡ s.was ++ settled_of s.old.book tickets moment))
    ⊎ (HasFailed (slots sight s.old.log) (slots sight s.new.log)
    × (s.new.book ≡ with_steps marked (asks_of tickets))
    × (s.now ≡ s.was ++ settled_of marked tickets moment))

-- The calls of these tickets have their steps, and what was settled then stands after what was settled before.
pub record AreApplied {D : Type 0} (sight : D → Sight) (follows : D → Type 0) (s : Span D)
    (tickets : List Announced) : Type 0 where
  pub stepped : AreStepped sight s tickets
  pub quiet : changing_of s.old.book (asks_of tickets) ≡ [] → s.new.log ≡ s.old.log
  pub before : Follow follows s.new.log → Follow follows s.old.log
  pub any_moment : Follow follows s.new.log
      → PairLeavesOnly (slots sight s.old.log) (slots sight s.new.log)
      (MayLeaveAll s.old.book (asks_of tickets))
  pub since : Follow follows s.new.log
      → LeavesSince (moments (slots sight s.new.log)) (slots sight s.new.log)
      (IsAllowed s.new.book (doubt_of s.new.book.items))
  pub appended : s.new.log.generation ≡ s.old.log.generation
  pub opened : s.new.opened ≡ s.old.opened

-- The group ends with these tickets, and these jobs are left: it has 64 calls; or no job is left; or
-- the next call writes, and the block with its change does not fit; or there was no memory for it.
abbrev pub EndsFor : {D : Type 0} → Sharded D → List Announced → List Job → GroupEnd → Type 0
EndsFor old front rest Most = length front ≡ max_turn
EndsFor old front rest Last = rest ≡ []
EndsFor old front [] Full = ⊥
EndsFor old front (j ∷ rest) Full = NeedsWrite (with_steps old.book (asks_of front)) j.call
    × (¬ FitsAfter old.log old.book (asks_of front) j.call)
EndsFor old front rest Memory = rest ≢ []

-- The first jobs are written at once, and the rest is as it was.
pub record AreTogether {D : Type 0} (sight : D → Sight) (follows : D → Type 0)
    (t : Turn D) : Type 0 where
  pub front : List Announced
  pub some : 1 ≤ length front
  pub few : length front ≤ max_turn
  pub split : tickets_of t.jobs ≡ front ++ tickets_of t.rest
  pub applied : AreApplied sight follows (span_of t) front
  pub ends : EndsFor t.old front t.rest t.ended

-- why a call goes alone
abbrev pub GoesAlone : {D : Type 0} → Sharded D → Job → GroupEnd → Type 0
GoesAlone old job Most = ⊥
GoesAlone old job Last = ⊥
GoesAlone old job Full = NeedsWrite old.book job.call × (¬ FitsBehind old.log old.book job.call)
GoesAlone old job Memory = Unit {0}

-- why such a call is refused
abbrev pub fault_alone : ℕ → GroupEnd → ApplyFault
fault_alone generation Full = roll_fault generation
fault_alone generation ended = faults.Memory

-- A call that goes alone is refused: its ticket comes back, and all else is as it was.
pub record IsComingBack {D : Type 0} (old new : Sharded D) (ticket : Announced) (ended : GroupEnd)
    (fault : ApplyFault) (back : Announced) : Type 0 where
  pub same : new ≡ old
  pub back_is : back ≡ ticket
  pub fault_is : fault ≡ fault_alone old.log.generation ended
  pub spent : fault ≡ faults.GenerationSpent
      → IsSpent old.log old.opened old.book ticket.ask.call

-- The first job goes alone: as a call that is made by itself.
pub record IsAlone {D : Type 0} (sight : D → Sight) (follows : D → Type 0)
    (t : Turn D) : Type 0 where
  pub job : Job
  pub split : t.jobs ≡ job ∷ t.rest
  pub why : GoesAlone t.old job t.ended
  pub reply : Reply
  pub receipt : Received
  pub applied : IsApplied sight follows t.old t.new job.ticket reply receipt
  pub settled : t.now ≡ t.was ++ settled.Answered reply receipt ∷ []

-- the tickets come back, one after another
abbrev pub given_back_of : ApplyFault → List Announced → List Settled
given_back_of fault [] = []
given_back_of fault (t ∷ ts) = settled.GivenBack fault t ∷ given_back_of fault ts

-- The first job comes back, with those of its pass after it, and all else is as it was.
pub record IsGivenBack {D : Type 0} (t : Turn D) : Type 0 where
  pub job : Job
  pub others : List Job
  pub split : t.jobs ≡ job ∷ others
  pub why : GoesAlone t.old job t.ended
  pub same : t.new ≡ t.old
  pub fault : ApplyFault
  pub fault_is : fault ≡ fault_alone t.old.log.generation t.ended
  pub spent : fault ≡ faults.GenerationSpent → IsSpent t.old.log t.old.opened t.old.book job.call
  pub settled : t.now
      ≡ t.was ++ given_back_of fault (tickets_of (jobs_by job.ticket.ask.pass t.jobs))
  pub rest_is : t.rest ≡ jobs_but job.ticket.ask.pass t.jobs

-- what becomes of the jobs in a turn: one of these three
abbrev pub IsTurn : {D : Type 0} → (D → Sight) → (D → Type 0) → Turn D → Type 0
IsTurn sight follows t =
    AreTogether sight follows t ⊎ (IsAlone sight follows t ⊎ IsGivenBack t)

-- the jobs may be made: each is of this book, lawful, and in its turn
pub record AreReady (book : Booked) (jobs : List Job) : Type 0 where
  pub of_book : AreOf book (tickets_of jobs)
  pub lawful : AreLawful book.about book.shard jobs
  pub turn : AreInPassTurn book.items [] (tickets_of jobs)
