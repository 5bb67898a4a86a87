-- What a request asks for, and what it is told of its calls; for private clauses.
use Rattle.std.specs.Prelude.{◌≡◌, ℕ, ◌≤◌, List, [], ◌∷◌, length, Option, None, Result, Ok, Err}
use Rattle.labels.specs.declared.fault.LabelFault.{LabelFault}
use Rattle.accept.specs.declared.call.Call.{Call}
use Rattle.accept.specs.declared.call.Reply.{Reply}
use Rattle.accept.specs.declared.fault.CallFault.{CallFault}
use Rattle.requests.specs.declared.answer.Answer.{Answer}
use Rattle.requests.specs.declared.route.Route.{Route}
use Rattle.requests.specs.declared.route.Route.TheVariants.{Push}
use Rattle.answering.specs.Asking.{AsksFor}
use Rattle.answering.specs.Calls.{max_window}
use Rattle.answering.specs.Courses.{first_failure}
use Rattle.answering.specs.Lines.{push_status, lines_from}
use Rattle.answering.specs.Parts.{AsksForCall, CameIsTold, UncalledIsAnswered}
use Rattle.answering.specs.Showing.{IsShown}
use Rattle.answering.specs.Windows.{AsksForStreams, EndsSo, came_of, merged}
use Rattle.answering.specs.declared.calling.Uncalled.TheVariants.{Body}
use Rattle.answering.specs.declared.demands.Demand.{Demand}
use Rattle.answering.specs.declared.demands.Demand.TheVariants.{Nothing, One, Streams}
use Rattle.answering.specs.declared.demands.Waiting.{Waiting}
use Rattle.answering.specs.declared.demands.Waiting.TheVariants as waits
use Rattle.answering.specs.declared.responding.NoAnswer.{NoAnswer}

-- its calls
abbrev pub calls_asked : Demand → List Call
calls_asked (Nothing why) = []
calls_asked (One call) = call ∷ []
calls_asked (Streams streams) = streams.calls.items

-- the body of a read or a trim asks for it
abbrev pub IsDemandOfOne : Route → List ℕ → List ℕ → Demand → Type 0
IsDemandOfOne route tenant body (Nothing why) = AsksForCall route tenant body (Err why)
IsDemandOfOne route tenant body (One call) = AsksForCall route tenant body (Ok call)
IsDemandOfOne route tenant body (Streams streams) = ⊥

-- the body of a push does
abbrev pub IsDemandOfPush : ℕ → List ℕ → List ℕ → Demand → Type 0
IsDemandOfPush now tenant body (Nothing (Body fault)) = AsksFor Push now body (Err fault)
IsDemandOfPush now tenant body (Streams streams) =
    AsksForStreams now tenant body streams.places.items streams.calls.items
IsDemandOfPush now tenant body demand = ⊥

-- the body asks for it at this route
abbrev pub IsDemand : Route → ℕ → List ℕ → List ℕ → Demand → Type 0
IsDemand Push now tenant body demand = IsDemandOfPush now tenant body demand
IsDemand route now tenant body demand = IsDemandOfOne route tenant body demand

-- the answer to a push, by what came of the calls of its streams
abbrev pub StreamsAreTold : List (Option LabelFault) → List (Result Reply CallFault)
    → Result Answer NoAnswer → Type 0
StreamsAreTold places outcomes (Ok answer) = (first_failure (merged places outcomes) ≡ None)
    × IsShown (push_status (merged places outcomes)) (lines_from 0 (merged places outcomes)) answer
StreamsAreTold places outcomes (Err no_answer) = EndsSo no_answer [] (merged places outcomes)

-- how many calls it waits for
abbrev pub awaited : Waiting → ℕ
awaited (waits.Nothing why) = 0
awaited waits.One = 1
awaited (waits.Streams taken) = taken.calls

-- the request that asks for these calls waits so
abbrev pub WaitsFor : Demand → Waiting → Type 0
WaitsFor (Nothing why) (waits.Nothing told) = told ≡ why
WaitsFor (One call) waits.One = Unit {0}
WaitsFor (Streams streams) (waits.Streams taken) = (taken.places ≡ streams.places)
    × (taken.calls ≡ length streams.calls.items) × (length streams.places.items ≤ max_window)
WaitsFor demand waiting = ⊥

-- the answer, by what came of the calls that it waited for
abbrev pub IsAnsweredBy : Waiting → List (Result Reply CallFault) → Result Answer NoAnswer → Type 0
IsAnsweredBy (waits.Nothing why) outcomes result = UncalledIsAnswered why result
IsAnsweredBy waits.One [] result = ⊥
IsAnsweredBy waits.One (outcome ∷ outcomes) result = CameIsTold (came_of outcome) result
IsAnsweredBy (waits.Streams taken) outcomes result = StreamsAreTold taken.places.items outcomes result

-- they ask for the same
abbrev pub SameCalls : Demand → Demand → Type 0
SameCalls (Streams streams) (Streams others) = (others.places.items ≡ streams.places.items)
    × (others.calls.items ≡ streams.calls.items)
SameCalls (Streams streams) other = ⊥
SameCalls demand other = other ≡ demand
