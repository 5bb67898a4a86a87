-- Calls that are to be made at a shard, and what becomes of them.
use Rattle.std.specs.Prelude.{◌≡◌, ℕ, List, [], ◌∷◌, false}
use Rattle.accept.specs.Calls.{AreNumbers}
use Rattle.atomic_table.specs.Seated.{TableId}
use Rattle.history.specs.declared.views.About.{About}
use Rattle.history.specs.Histories.{shard_in, step_of}
use Rattle.history.specs.Handles.{Announced, AreInLine}
use Rattle.shard.specs.declared.fault.ApplyFault.TheVariants.{Memory}
use Rattle.shard.specs.declared.first_jobs.Job.{Job}
use Rattle.shard.specs.declared.group.Settled.{Settled}
use Rattle.shard.specs.declared.group.Settled.TheVariants.{Answered, GivenBack}
use Rattle.shard.specs.Jobs.{tickets_of}
use Rattle.owners.specs.Homes.{Homed}

-- whose call it was
abbrev pub pass_in : Settled → ℕ
pass_in (Answered reply receipt) = receipt.step.ask.pass
pass_in (GivenBack fault t) = t.ask.pass

-- the number of the call
abbrev pub number_of_settled : Settled → ℕ
number_of_settled (Answered reply receipt) = receipt.step.ask.number
number_of_settled (GivenBack fault t) = t.ask.number

-- what is told in its place: that there was no memory, where the call has no step
abbrev pub with_memory : Settled → Settled
with_memory (Answered reply receipt) = Answered reply receipt
with_memory (GivenBack fault t) = GivenBack Memory t

-- each is of pass p
abbrev pub AreOfPass : ℕ → List Announced → Type 0
AreOfPass p [] = Unit {0}
AreOfPass p (t ∷ ts) = (t.ask.pass ≡ p) × AreOfPass p ts

module _ (table : TableId) where
  -- the ticket is of this table, and in no doubt
  pub record IsSureTicket (t : Announced) : Type 0 where
    pub same_table : t.table ≡ table
    pub sure : t.doubted ≡ false

  -- so is each
  abbrev pub AreSureTickets : List Announced → Type 0
  AreSureTickets [] = Unit {0}
  AreSureTickets (t ∷ ts) = IsSureTicket t × AreSureTickets ts

  -- it came of a call on this table: the call's step has this reply, or the call has none
  abbrev pub IsOfCall : Settled → Type 0
  IsOfCall (Answered reply receipt) = (receipt.table ≡ table)
      × (receipt.step ≡ step_of receipt.step.ask reply)
  IsOfCall (GivenBack fault t) = (t.table ≡ table) × (t.doubted ≡ false)

  -- so did each
  abbrev pub AreOfCalls : List Settled → Type 0
  AreOfCalls [] = Unit {0}
  AreOfCalls (s ∷ ss) = IsOfCall s × AreOfCalls ss

module _ (table : TableId) (about : About) where
  -- the call is to be made at shard k
  pub record IsWaiting (k : ℕ) (job : Job) : Type 0 where
    pub ticket : IsSureTicket table job.ticket
    pub shard : shard_in about job.ticket.ask ≡ k
    pub call : job.ticket.ask.call ≡ job.call
    pub numbers : AreNumbers job.call

  -- so is each
  abbrev pub AreWaiting : ℕ → List Job → Type 0
  AreWaiting k [] = Unit {0}
  AreWaiting k (j ∷ jobs) = IsWaiting k j × AreWaiting k jobs

  -- the calls of pass p that are to be made at shard k, in the order of their announcement: each names just those in
  -- front of it
  pub record IsBatch (k p : ℕ) (jobs : List Job) : Type 0 where
    pub waiting : AreWaiting k jobs
    pub pass : AreOfPass p (tickets_of jobs)
    pub line : AreInLine [] (tickets_of jobs)

-- What came of calls of pass p, as queues carry it.
module _ (home : Homed) where
  pub record IsDue (p : ℕ) (settled : Settled) : Type 0 where
    pub pass : pass_in settled ≡ p
    pub call : IsOfCall home.table settled

  -- so is each
  abbrev pub AreDue : ℕ → List Settled → Type 0
  AreDue p [] = Unit {0}
  AreDue p (s ∷ ss) = IsDue p s × AreDue p ss
