-- What comes of a pass's open calls on one shard, whatever is open on the others.
use Rattle.std.specs.Prelude.{◌≡◌, ℕ, List, [], ◌∷◌, ◌++◌, length, Result, Ok, Err}
use Rattle.accept.specs.declared.call.Reply.{Reply}
use Rattle.accept.specs.declared.history.Ask.{Ask}
use Rattle.accept.specs.declared.history.Item.{Item}
use Rattle.accept.specs.declared.fault.CallFault.{CallFault}
use Rattle.history.specs.declared.views.Caller.{Caller}
use Rattle.history.specs.Histories.{IsFirst, asks_on, shard_in, step_of}
use Rattle.history.specs.Plays.{IsRestedAt, StaysRested, collect_at, withdraw_at, HasSeenStep}
use Rattle.history.specs.Handles.{Passed}
use Rattle.shard.specs.declared.fault.ApplyFault.{ApplyFault}
use Rattle.ingester.specs.Faults.{fault_of}

-- the numbers of these calls
abbrev pub asks_numbers : List Ask → List ℕ
asks_numbers [] = []
asks_numbers (a ∷ asks) = a.number ∷ asks_numbers asks

-- The open calls of the pass on shard k have these numbers. Of its own steps it has seen there just those that it made.
pub record HasOpenThere (c : Caller) (k : ℕ) (numbers : List ℕ) : Type 0 where
  pub numbers_are : asks_numbers (asks_on c.about k c.pending) ≡ numbers
  pub rested : IsRestedAt c k

-- the answer to this first open call of its shard was taken in
pub record IsCollectedThere (old new : Passed) (first : Ask) (reply : Reply) : Type 0 where
  pub upto : List Item
  pub pass : new ≡ record old { caller = collect_at old.caller (step_of first reply) upto }
  pub seen : HasSeenStep old.caller (collect_at old.caller (step_of first reply) upto)
      (step_of first reply) upto
  pub rested : StaysRested old.caller (collect_at old.caller (step_of first reply) upto)
      (shard_in old.caller.about first)

-- this first open call of its shard was taken back
pub record IsWithdrawnThere (old new : Passed) (first : Ask) (fault : CallFault) : Type 0 where
  pub cause : ApplyFault
  pub fault_is : fault ≡ fault_of cause
  pub pass : new ≡ record old { caller = withdraw_at old.caller first }

abbrev pub IsTakenThereBy : Passed → Passed → Ask → Result Reply CallFault → Type 0
IsTakenThereBy old new first (Ok reply) = IsCollectedThere old new first reply
IsTakenThereBy old new first (Err fault) = IsWithdrawnThere old new first fault

-- this came of the first open call on shard k
pub record IsTakenOn (k : ℕ) (old new : Passed) (outcome : Result Reply CallFault) : Type 0 where
  pub first : Ask
  pub here : k ≡ shard_in old.caller.about first
  pub is_first : IsFirst first (asks_on old.caller.about k old.caller.pending)
  pub by : IsTakenThereBy old new first outcome

-- this came of the open calls on shard k, from the first on
abbrev pub AreTakenOn : ℕ → Passed → List (Result Reply CallFault) → Passed → Type 0
AreTakenOn k old [] new = new ≡ old
AreTakenOn k old (outcome ∷ outcomes) new = (mid : Passed) × IsTakenOn k old mid outcome
    × AreTakenOn k mid outcomes new

-- this number of open calls on shard k, from the first on, were taken in, and this came of them
pub record AreReceivedOn (k : ℕ) (old new : Passed) (before after : List (Result Reply CallFault))
    (count : ℕ) : Type 0 where
  pub came : List (Result Reply CallFault)
  pub outcomes_are : after ≡ before ++ came
  pub counted : length came ≡ count
  pub taken : AreTakenOn k old came new
