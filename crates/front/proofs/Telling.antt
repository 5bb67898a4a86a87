-- What came of calls that were made together, as requests are told of them.
use Rattle.std.proofs.Common.{Bool, false, List, [], ◌∷◌, Result}
use Rattle.accept.specs.declared.call.Call.{Call}
use Rattle.accept.specs.declared.call.Reply.{Reply}
use Rattle.accept.specs.declared.fault.CallFault.{CallFault}
use Rattle.accept.specs.Doubts.{is_doubt}
use Rattle.history.specs.Handles.{Passed}
use Rattle.ingester.specs.Calls.{AreGiven, AreGivenAfter}
use Rattle.answering.specs.Calls.{CallsGive, CallsGiveAfter}
use Rattle.front.specs.Calls.{CallGives}

all_after : (doubt : Bool) (old new : Passed) (asked : List Call) (outcomes : List (Result Reply CallFault)) → AreGivenAfter doubt old asked outcomes new
    → CallsGiveAfter CallGives doubt old asked outcomes new
all_after doubt old new [] [] given = given
all_after doubt old new [] (r ∷ rs) given = absurd given
all_after doubt old new (call ∷ asked) [] given = absurd given
all_after doubt old new (call ∷ asked) (r ∷ rs) (mid, is, given) = (mid, is, all_after (is_doubt r) mid new asked rs given)

pub all_told : (old new : Passed) (asked : List Call) (outcomes : List (Result Reply CallFault)) → AreGiven old asked outcomes new → CallsGive CallGives old asked outcomes new
all_told old new asked outcomes given = all_after false old new asked outcomes given
