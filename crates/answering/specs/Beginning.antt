-- A turn in two parts: until its request waits for its calls, and after they have come back; for private clauses.
use Rattle.std.specs.Prelude.{◌≡◌, ℕ, ◌≤◌, Bool, true, false, All, List, [], length, drop, slice_range, Option, None, Some, Result, Ok, Err, IfErr}
use Rattle.accept.specs.Calls.{AreNumbers}
use Rattle.requests.specs.Streams.{Request, ReadsMessage, IsMessage, max_head}
use Rattle.requests.specs.declared.answer.Answer.{Answer}
use Rattle.requests.specs.declared.fault.ServeFault.{ServeFault}
use Rattle.requests.specs.declared.incoming.Message.{Message}
use Rattle.requests.specs.declared.route.Route.{Route}
use Rattle.requests.specs.declared.verdict.Verdict.TheVariants.{Call}
use Rattle.answering.specs.Calls.{Giving}
use Rattle.answering.specs.Connections.{Unended}
use Rattle.answering.specs.Demands.{IsDemand, calls_asked}
use Rattle.answering.specs.Replying.{IsReplied}
use Rattle.answering.specs.Serving.{world}
use Rattle.answering.specs.Turns.{MayComeAfter, ConnectionTurnIsServed, HasText, IsLeftByTurn, room_behind}
use Rattle.answering.specs.declared.demands.Demand.{Demand}
use Rattle.answering.specs.declared.responding.NoAnswer.{NoAnswer}
use Rattle.answering.specs.declared.visiting.TurnBegun.{TurnBegun}
use Rattle.answering.specs.declared.visiting.TurnBegun.TheVariants.{Over, Waits}
use Rattle.answering.specs.declared.visiting.TurnOutcome.{TurnOutcome}
use Rattle.answering.specs.declared.visiting.TurnOutcome.TheVariants.{Answered, Closed, Unfinished}

-- no call gives anything
abbrev pub NoCalls : Giving (Unit {0})
NoCalls doubt old call outcome new = ⊥

-- the calls that it waits for may be made
abbrev pub HasNumbersBegun : Result TurnBegun ServeFault → Type 0
HasNumbersBegun (Ok (Waits m demand)) = All AreNumbers (calls_asked demand)
HasNumbersBegun result = Unit {0}

-- what may stand there next; a request that waits lies there whole
abbrev pub MayComeAfterBegun : TurnBegun → List ℕ → Type 0
MayComeAfterBegun (Over turn) rest = MayComeAfter turn rest
MayComeAfterBegun (Waits m demand) rest = (m.start ≤ m.end) × (m.end ≤ length rest)
    × (length (drop m.end rest) ≤ max_head)

-- what a turn that answered a request leaves
abbrev pub turn_after : Bool → TurnOutcome
turn_after true = Closed
turn_after false = Answered

abbrev pub turn_by : Result Bool ServeFault → Result TurnOutcome ServeFault
turn_by (Ok closes) = Ok (turn_after closes)
turn_by (Err fault) = Err fault

module _ {C : Type 0} (ticks : C → ℕ → C → Type 0) where
  -- the request at the front of these bytes asks for this, and the clock was read for it
  pub record WaitsForCalls (bytes : List ℕ) (clock clock' : C) (m : Message) (demand : Demand) : Type 0 where
    pub request : Request
    pub reads : ReadsMessage bytes request (drop m.end bytes)
    pub is : IsMessage bytes request m
    pub route : Route
    pub tenant : List ℕ
    pub verdict : m.verdict ≡ Call route tenant
    pub now : ℕ
    pub tick : ticks clock now clock'
    pub demands : IsDemand route now tenant (slice_range bytes m.start m.end) demand

  module _ (before after : Option (List ℕ)) where
    -- a turn in which no call was made, whatever is known of calls
    abbrev pub IsTurnWithoutCalls : List ℕ → C → List ℕ → C → Result TurnOutcome ServeFault → Type 0
    IsTurnWithoutCalls bytes clock rest clock' result = ConnectionTurnIsServed NoCalls ticks before after bytes
        (world tt clock) rest (world tt clock') result

    -- the turn is over without a call, or its request waits, and nothing was put where answers go
    abbrev pub IsTurnBegun : List ℕ → C → List ℕ → C → Result TurnBegun ServeFault → Type 0
    IsTurnBegun bytes clock rest clock' (Ok (Over turn)) =
        IsTurnWithoutCalls bytes clock rest clock' (Ok turn)
    IsTurnBegun bytes clock rest clock' (Err fault) =
        IsTurnWithoutCalls bytes clock rest clock' (Err fault)
    IsTurnBegun bytes clock rest clock' (Ok (Waits m demand)) =
        WaitsForCalls bytes clock clock' m demand × (rest ≡ bytes) × (after ≡ before)

-- the same of what has come, and how much more may; none where the connection ends
abbrev pub IsRoomAfter : Result TurnOutcome ServeFault → List ℕ → List ℕ → Option ℕ → Type 0
IsRoomAfter (Ok (Unfinished n)) old new room = (new ≡ old) × (room ≡ Some n)
IsRoomAfter (Ok Answered) old new room = (new ≡ old) × (room ≡ Some (room_behind old))
IsRoomAfter turn old new room = (new ≡ []) × (room ≡ None)

-- a visit in which no call was made, by its turn and what that left of what came
pub record IsVisitedWithoutCalls {C : Type 0} (ticks : C → ℕ → C → Type 0) (old : Unended)
    (clock : C) (new : Unended) (clock' : C) : Type 0 where
  pub turn : Result TurnOutcome ServeFault
  pub rest : List ℕ
  pub is : IsTurnWithoutCalls ticks (Some old.text) (Some new.text) old.came clock rest clock' turn
  pub left : IsLeftByTurn turn rest old new
  pub room : IfErr turn (HasText old.text)

-- the request of this message was answered so, and dropped
pub record IsAnsweredSo (m : Message) (answered : Result Answer NoAnswer) (old new : Unended) : Type 0 where
  pub replied : Result Bool ServeFault
  pub is : IsReplied (Some old.text) (Some new.text) answered m.closes replied
  pub left : IsLeftByTurn (turn_by replied) (drop m.end old.came) old new
  pub room : IfErr replied (HasText old.text)
