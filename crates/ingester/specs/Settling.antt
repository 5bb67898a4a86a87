-- What comes of the only open call of a pass.
use Rattle.std.specs.Prelude.{◌≡◌, ◌⊎◌, Result, Ok, Err}
use Rattle.accept.specs.declared.call.Reply.{Reply}
use Rattle.history.specs.Handles.{Passed}
use Rattle.shard.specs.declared.group.Settled.{Settled}
use Rattle.shard.specs.declared.group.Settled.TheVariants.{Answered, GivenBack}
use Rattle.accept.specs.declared.fault.CallFault.{CallFault}
use Rattle.accept.specs.declared.fault.CallFault.TheVariants.{InDoubt}
use Rattle.ingester.specs.Faults.{fault_of}
use Rattle.ingester.specs.Calls.{closed_now}
use Rattle.ingester.specs.Batches.{IsTaken, IsTakenBack}

-- what is answered to a call that the owner settled
abbrev pub told_of : Settled → Result Reply CallFault
told_of (Answered reply receipt) = Ok reply
told_of (GivenBack cause t) = Err (fault_of cause)

-- The call was taken in; or its answer is lost. Then it may have been taken back, and the pass is closed.
pub record IsLostAnswer (old new : Passed) (outcome : Result Reply CallFault) : Type 0 where
  pub doubt : outcome ≡ Err InDoubt
  pub mid : Passed
  pub back : IsTakenBack old mid
  pub closed : new ≡ closed_now mid

abbrev pub IsSettled : Passed → Passed → Result Reply CallFault → Type 0
IsSettled old new outcome = IsTaken old new outcome ⊎ IsLostAnswer old new outcome
