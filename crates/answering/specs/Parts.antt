-- What the parts of an answer say; for private clauses.
use Rattle.std.specs.Prelude.{◌≡◌, ◌≢◌, ℕ, List, [], ◌∷◌, None, Some, Result, Ok, Err}
use Rattle.pairs.specs.Labels.{Label}
use Rattle.labels.specs.Faults.{first_fault}
use Rattle.accept.specs.declared.call.Call.{Call}
use Rattle.pushjson.specs.declared.fault.PushFault.{PushFault}
use Rattle.pushjson.specs.declared.fault.PushFault.TheVariants.{Memory}
use Rattle.requests.specs.declared.answer.Answer.{Answer}
use Rattle.requests.specs.declared.route.Route.{Route}
use Rattle.requests.specs.declared.route.Route.TheVariants.{Push}
use Rattle.answering.specs.declared.calling.Uncalled.{Uncalled}
use Rattle.answering.specs.declared.calling.Uncalled.TheVariants.{Body, Labels}
use Rattle.answering.specs.declared.responding.NoAnswer.{NoAnswer}
use Rattle.answering.specs.declared.responding.NoAnswer.TheVariants.{Failed, GivenUp}
use Rattle.answering.specs.Asking.{Asked, AsksFor, IsCallOf}
use Rattle.answering.specs.Calls.{Giving, Came}
use Rattle.answering.specs.Calls as cames
use Rattle.answering.specs.Lines.{push_status, lines_from, came_lines}
use Rattle.answering.specs.Courses.{fault_failure, first_failure, StreamsGive, BodyFails, BodyStops}
use Rattle.answering.specs.Replies.{one_status, one_text}
use Rattle.answering.specs.Responses.{fault_status, fault_text}
use Rattle.answering.specs.Showing.{IsShown}

-- a body is refused
abbrev pub BodyIsRefused : PushFault → Result Answer NoAnswer → Type 0
BodyIsRefused fault (Ok answer) = (fault_failure fault ≡ None)
    × IsShown (fault_status fault) (fault_text fault) answer
BodyIsRefused fault (Err (Failed failure)) = fault_failure fault ≡ Some failure
BodyIsRefused fault (Err GivenUp) = fault_failure fault ≡ None

-- the answer to a read or a trim, by what came of its stream
abbrev pub CameIsTold : Came → Result Answer NoAnswer → Type 0
CameIsTold (cames.Failed failure) (Err (Failed told)) = told ≡ failure
CameIsTold (cames.Failed failure) result = ⊥
CameIsTold came (Ok answer) = IsShown (one_status came) (one_text came) answer
CameIsTold came (Err GivenUp) = one_text came ≢ []
CameIsTold came (Err (Failed failure)) = ⊥

-- no call is made of a body that asks for one
abbrev pub UncalledIsAnswered : Uncalled → Result Answer NoAnswer → Type 0
UncalledIsAnswered (Body fault) result = BodyIsRefused fault result
UncalledIsAnswered (Labels fault) result = CameIsTold (cames.Refused fault) result

-- it asks for one stream
abbrev pub IsOfOne : Route → Type 0
IsOfOne Push = ⊥
IsOfOne route = Unit {0}

-- why there is no call of a stream with these labels
abbrev pub IsUncalled : List Label → Uncalled → Type 0
IsUncalled pairs (Body fault) = fault ≡ Memory
IsUncalled pairs (Labels fault) = first_fault pairs ≡ Some fault

-- the body asks for this one call, or there is none
abbrev pub AsksForCall : Route → List ℕ → List ℕ → Result Call Uncalled → Type 0
AsksForCall route tenant body (Ok call) = (asked : Asked)
    × ((now : ℕ) → AsksFor route now body (Ok (asked ∷ []))) × IsCallOf tenant asked call
AsksForCall route tenant body (Err (Body fault)) = (now : ℕ) → AsksFor route now body (Err fault)
AsksForCall route tenant body (Err (Labels fault)) = (asked : Asked)
    × ((now : ℕ) → AsksFor route now body (Ok (asked ∷ [])))
    × (first_fault asked.pairs ≡ Some fault)

module _ {H : Type 0} (gives : Giving H) (tenant : List ℕ) where
  -- the streams of a push
  abbrev pub BodyIsAnswered : H → List Asked → Result Answer NoAnswer → H → Type 0
  BodyIsAnswered h all (Ok answer) h' = (cames : List Came)
      × StreamsGive gives tenant h all cames h'
      × (first_failure cames ≡ None) × IsShown (push_status cames) (lines_from 0 cames) answer
  BodyIsAnswered h all (Err (Failed failure)) h' = (cames : List Came)
      × BodyFails gives tenant h all cames failure h'
  BodyIsAnswered h all (Err GivenUp) h' = BodyStops gives tenant came_lines h all h'
