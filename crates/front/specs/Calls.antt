-- What a call of an ingester leaves of its pass, and what its request is told.
use Rattle.history.specs.Handles.{Passed}
use Rattle.ingester.specs.Calls.{IsGivenAfter}
use Rattle.answering.specs.Calls.{Giving}

-- This came of the next call of a pass. Where the call before it, made with it, is in doubt, it may be lost with that
-- one.
abbrev pub CallGives : Giving Passed
CallGives = IsGivenAfter
