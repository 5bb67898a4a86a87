-- Calls of a pass that are announced one after another, and whose answers are taken in together.
use Rattle.std.specs.Prelude.{◌≡◌, ◌⊎◌, ℕ, zero, suc, ◌+◌, ◌-◌, ◌^◌, ◌<◌, ◌≤◌, List, [], ◌∷◌, ◌++◌, Some, false, length, Result, Ok, Err, slice_get}
use Rattle.atomic_table.specs.Seated.{TableId}
use Rattle.accept.specs.Calls.{AreNumbers}
use Rattle.accept.specs.declared.call.Call.{Call}
use Rattle.accept.specs.declared.call.Reply.{Reply}
use Rattle.accept.specs.declared.history.Ask.{Ask}
use Rattle.accept.specs.declared.history.Item.{Item}
use Rattle.history.specs.declared.views.About.{About}
use Rattle.history.specs.declared.views.Caller.{Caller}
use Rattle.history.specs.Histories.{IsFirst, asks_on, step_of, max_open}
use Rattle.history.specs.Plays.{ask_of, before_of, withdraw_to, collect_to, HasSeenStep, IsRested}
use Rattle.history.specs.Handles.{Passed, is_closed_pass, asks_of}
use Rattle.shard.specs.declared.fault.ApplyFault.{ApplyFault}
use Rattle.shard.specs.declared.first_jobs.Job.{Job}
use Rattle.shard.specs.Jobs.{tickets_of}
use Rattle.owners.specs.declared.routes.ShardRoute.{ShardRoute}
use Rattle.owners.specs.Calls.{IsBatch}
use Rattle.owners.specs.Openings.{Opening, home_of}
use Rattle.owners.specs.Routes.{AreReadyRoutes, AreIdleRoutes}
use Rattle.ingester.specs.declared.announcing.Round.{Round}
use Rattle.accept.specs.declared.fault.CallFault.{CallFault}
use Rattle.accept.specs.declared.fault.CallFault.TheVariants.{InDoubt}
use Rattle.ingester.specs.Faults.{fault_of}
use Rattle.ingester.specs.Calls.{IsPassOf, IsGiven, with_next, closed_now}

-- the calls were announced one after another
abbrev pub AreAnnounced : Passed → List Call → Passed → Type 0
AreAnnounced old [] new = new ≡ old
AreAnnounced old (call ∷ calls) new = (is_closed_pass old ≡ false)
    × AreAnnounced (with_next old call) calls new

-- the jobs of a pass's open calls at shard k
pub record IsBatchOf (table : TableId) (about : About) (k : ℕ) (c : Caller)
    (jobs : List Job) : Type 0 where
  pub batch : IsBatch table about k c.pass jobs
  pub asks : asks_of (tickets_of jobs) ≡ asks_on about k c.pending

-- in the message to each shard are the jobs of a pass's open calls there
abbrev pub AreBatchesOf : TableId → About → Caller → List ShardRoute → Type 0
AreBatchesOf table about c routes = (k : ℕ) (route : ShardRoute) → slice_get routes k ≡ Some route
    → IsBatchOf table about k c route.message.jobs.items

-- Of pass p there is a route to each shard, and in the messages are the jobs of these open calls.
pub record HasMessages {D : Type 0} (opening : Opening D) (p : ℕ) (c : Caller)
    (routes : List ShardRoute) : Type 0 where
  pub batches : AreBatchesOf opening.table opening.about c routes
  pub ready : AreReadyRoutes (home_of opening) p routes
  pub count : length routes ≡ opening.about.shards

-- of pass p there is a route to each shard, on which no call is
pub record HasIdleRoutes {D : Type 0} (opening : Opening D) (p : ℕ) (routes : List ShardRoute) : Type 0 where
  pub idle : AreIdleRoutes (home_of opening) p routes
  pub count : length routes ≡ opening.about.shards

-- each number is below n
abbrev pub AreBelow : ℕ → List ℕ → Type 0
AreBelow n numbers = (k number : ℕ) → slice_get numbers k ≡ Some number → number < n

-- the first of the calls was announced, under this number, and its job stands after the others of its shard
pub record IsPutIntoMessage (table : TableId) (old new : Passed) (calls left : List Call)
    (jobs now : List Job)
    (number : ℕ) : Type 0 where
  pub call : Call
  pub calls_are : calls ≡ call ∷ left
  pub «open» : is_closed_pass old ≡ false
  pub pass : new ≡ with_next old call
  pub rested : old.caller.pending ≡ [] → IsRested old.caller
  pub number_is : number ≡ old.caller.last + 1
  pub jobs_are : now ≡ jobs ++ record {
    ticket = record {
      table = table;
      ask = ask_of old.caller (old.caller.last + 1) call;
      doubted = false;
      before = before_of old.caller (old.caller.last + 1) call;
    };
    call = call;
  } ∷ []
  pub numbers : AreNumbers call

-- the same, without the job
pub record IsNextOpen (old new : Passed) (calls left : List Call) (number : ℕ) : Type 0 where
  pub call : Call
  pub calls_are : calls ≡ call ∷ left
  pub «open» : is_closed_pass old ≡ false
  pub pass : new ≡ with_next old call
  pub rested : old.caller.pending ≡ [] → IsRested old.caller
  pub number_is : number ≡ old.caller.last + 1

-- the open calls have the numbers from n on
abbrev pub AreCountedFrom : ℕ → List Ask → Type 0
AreCountedFrom n [] = Unit {0}
AreCountedFrom n (a ∷ asks) = (a.number ≡ n) × AreCountedFrom (n + 1) asks

-- some of the calls, from the first on, were announced, and these are left
pub record AreSomeOpen (old new : Passed) (calls left : List Call) (first count : ℕ) : Type 0 where
  pub front : List Call
  pub calls_are : calls ≡ front ++ left
  pub counted : length front ≡ count
  pub announced : AreAnnounced old front new
  pub rested : IsRested old.caller
  pub numbers : AreCountedFrom first new.caller.pending

-- Of a round of announced calls n have been taken in, from the first on. The open calls of the pass are the others.
pub record IsUnderWay {D : Type 0} (opening : Opening D) (pass : Passed) (round : Round)
    (n : ℕ) : Type 0 where
  pub table : pass.table ≡ opening.table
  pub about : pass.caller.about ≡ opening.about
  pub rested : IsRested pass.caller
  pub own : round.pass ≡ pass.caller.pass
  pub numbers : AreCountedFrom (round.first + n) pass.caller.pending
  pub long : length pass.caller.pending + n ≡ round.count
  pub few : round.count ≤ max_open
  pub fits : round.first + round.count ≤ 2 ^ 64
  pub below : AreBelow opening.about.shards round.shards

-- some of the calls, from the first on, are announced as a round, which is not empty, and these are left
pub record HasBegunRound {D : Type 0} (opening : Opening D) (old new : Passed) (calls left : List Call)
    (round : Round) : Type 0 where
  pub some : AreSomeOpen old new calls left round.first round.count
  pub idle : old.caller.pending ≡ []
  pub positive : 0 < round.count
  pub under_way : IsUnderWay opening new round 0

-- the answer to this open call was taken in
pub record IsCollected (old new : Passed) (first : Ask) (reply : Reply) : Type 0 where
  pub upto : List Item
  pub pass : new ≡ record old { caller = collect_to old.caller (step_of first reply) upto }
  pub seen : HasSeenStep old.caller (collect_to old.caller (step_of first reply) upto)
      (step_of first reply) upto
  pub rested : IsRested (collect_to old.caller (step_of first reply) upto)

-- this open call was taken back
pub record IsWithdrawn (old new : Passed) (first : Ask) (fault : CallFault) : Type 0 where
  pub cause : ApplyFault
  pub fault_is : fault ≡ fault_of cause
  pub pass : new ≡ record old { caller = withdraw_to old.caller first.number }

-- this came of an open call
abbrev pub IsTakenBy : Passed → Passed → Ask → Result Reply CallFault → Type 0
IsTakenBy old new first (Ok reply) = IsCollected old new first reply
IsTakenBy old new first (Err fault) = IsWithdrawn old new first fault

-- this came of the first open call
pub record IsTaken (old new : Passed) (outcome : Result Reply CallFault) : Type 0 where
  pub first : Ask
  pub is_first : IsFirst first old.caller.pending
  pub by : IsTakenBy old new first outcome

-- this came of the open calls, from the first on
abbrev pub AreTaken : Passed → List (Result Reply CallFault) → Passed → Type 0
AreTaken old [] new = new ≡ old
AreTaken old (outcome ∷ outcomes) new = (mid : Passed) × IsTaken old mid outcome
    × AreTaken mid outcomes new

-- this number of open calls, from the first on, were taken in, and this came of them
pub record AreReceived (old new : Passed) (before after : List (Result Reply CallFault)) (count : ℕ) : Type 0 where
  pub came : List (Result Reply CallFault)
  pub outcomes_are : after ≡ before ++ came
  pub counted : length came ≡ count
  pub taken : AreTaken old came new

-- the first open call was taken back, or none was
abbrev pub IsTakenBack : Passed → Passed → Type 0
IsTakenBack old new = (new ≡ old)
    ⊎ ((first : Ask) × IsFirst first old.caller.pending
    × (new ≡ record old { caller = withdraw_to old.caller first.number }))

-- outcomes that are in doubt
abbrev pub doubts : ℕ → List (Result Reply CallFault)
doubts zero = []
doubts (suc n) = Err InDoubt ∷ doubts n

-- the open calls of a pass are lost, of a round those from one on: the first may have come back, and the pass is closed
pub record AreLost (old new : Passed) (before after : List (Result Reply CallFault))
    (from count : ℕ) : Type 0 where
  pub mid : Passed
  pub back : IsTakenBack old mid
  pub closed : new ≡ closed_now mid
  pub outcomes_are : after ≡ before ++ doubts (count - from)

-- this came of the open calls of a round: all were taken in, or some, and the others were lost
pub record AreEnded (old new : Passed) (before after : List (Result Reply CallFault)) (count : ℕ) : Type 0 where
  pub mid : Passed
  pub between : List (Result Reply CallFault)
  pub taken : ℕ
  pub received : AreReceived old mid before between taken
  pub ends : ((taken ≡ count) × (new ≡ mid) × (after ≡ between))
      ⊎ ((taken < count) × AreLost mid new between after taken count)

-- the first of the calls was refused
pub record IsNextRefused {D : Type 0} (opening : Opening D) (old new : Passed)
    (calls left : List Call)
    (fault : CallFault) : Type 0 where
  pub call : Call
  pub calls_are : calls ≡ call ∷ left
  pub given : IsGiven old call (Err fault) new
  pub pass : IsPassOf opening new
