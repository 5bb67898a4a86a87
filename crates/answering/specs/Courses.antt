-- What comes of the streams that a request asks for, one call each in the order of the body.
use Rattle.std.specs.Prelude.{◌≡◌, ◌≢◌, ◌<◌, ℕ, Bool, false, List, [], ◌∷◌, ◌++◌, length, Result, Ok, Err, Option, None, Some}
use Rattle.labels.specs.Faults.{first_fault}
use Rattle.accept.specs.declared.call.Call.{Call}
use Rattle.pushjson.specs.declared.fault.PushFault.{PushFault}
use Rattle.pushjson.specs.declared.fault.PushFault.TheVariants.{Memory}
use Rattle.accept.specs.Doubts.{is_doubt}
use Rattle.accept.specs.declared.fault.CallFault.{CallFault}
use Rattle.accept.specs.declared.fault.CallFault.TheVariants as faults
use Rattle.requests.specs.declared.route.Route.{Route}
use Rattle.requests.specs.declared.route.Route.TheVariants.{Push}
use Rattle.answering.specs.Asking.{Asked, AsksFor, IsCallOf}
use Rattle.answering.specs.Calls.{Giving, Came, Refused, Replied, Failed, max_window}
use Rattle.answering.specs.Lines.{came_lines}
use Rattle.answering.specs.Replies.{one_text}

-- the failure at a body's form, which is answered by a 500
abbrev pub fault_failure : PushFault → Option CallFault
fault_failure Memory = Some faults.Memory
fault_failure fault = None

-- the first failure of a call
abbrev pub first_failure : List Came → Option CallFault
first_failure [] = None
first_failure (Failed failure ∷ cs) = Some failure
first_failure (c ∷ cs) = first_failure cs

-- how many stand after it
abbrev pub behind_failure : List Came → ℕ
behind_failure [] = 0
behind_failure (Failed failure ∷ cs) = length cs
behind_failure (c ∷ cs) = behind_failure cs

-- how the calls of a request went: its body was refused at its form, or there was no memory for what calls are made of;
-- or this came of each stream; or the calls ended at a failure, and this came of a beginning of the streams
pub data Course : Type 0 where
  Unread : PushFault → Course
  Whole : List Came → Course
  Broken : List Came → CallFault → Course

-- whether the last call is in doubt, where this came of the last stream; one without a call changes nothing of it
abbrev pub doubt_behind : Bool → Came → Bool
doubt_behind doubt (Refused fault) = doubt
doubt_behind doubt (Replied reply) = false
doubt_behind doubt (Failed failure) = is_doubt (Err failure)

-- what the answer to a request of this route says of the stream at this place, of which this came
abbrev pub said_of : Route → ℕ → Came → List ℕ
said_of Push i came = came_lines i came
said_of route i came = one_text came

module _ {H : Type 0} (gives : Giving H) (tenant : List ℕ) where
  -- this came of a stream: a refusal of its labels without a call, the reply to its one call, or how that call failed;
  -- the call before it is in doubt or not
  abbrev pub StreamGives : Bool → H → Asked → Came → H → Type 0
  StreamGives doubt h asked (Refused fault) h' = (first_fault asked.pairs ≡ Some fault) × (h' ≡ h)
  StreamGives doubt h asked (Replied reply) h' = (call : Call) × IsCallOf tenant asked call
      × gives doubt h call (Ok reply) h'
  StreamGives doubt h asked (Failed failure) h' = (call : Call) × IsCallOf tenant asked call
      × gives doubt h call (Err failure) h'

  -- this came of each stream, in order
  abbrev pub StreamsGiveAfter : Bool → H → List Asked → List Came → H → Type 0
  StreamsGiveAfter doubt h [] [] h' = h' ≡ h
  StreamsGiveAfter doubt h (a ∷ more) (c ∷ cs) h' = (mid : H) × StreamGives doubt h a c mid
      × StreamsGiveAfter (doubt_behind doubt c) mid more cs h'
  StreamsGiveAfter doubt h all cames h' = ⊥

  -- this came of the streams of a request
  abbrev pub StreamsGive : H → List Asked → List Came → H → Type 0
  StreamsGive h all cames h' = StreamsGiveAfter false h all cames h'

  -- of a beginning of these streams this came: one failed, and fewer than a window's stand after it
  pub record BodyFails (h : H) (all : List Asked) (cames : List Came) (failure : CallFault)
      (h' : H) : Type 0 where
    pub done : List Asked
    pub more : List Asked
    pub split : all ≡ done ++ more
    pub each : StreamsGive h done cames h'
    pub fails : first_failure cames ≡ Some failure
    pub few : behind_failure cames < max_window

  -- of a beginning of these streams this came: none failed, of one there is something to say, and fewer than a
  -- window's stand after that
  pub record BodyStops (says : ℕ → Came → List ℕ) (h : H) (all : List Asked) (h' : H) : Type 0 where
    pub done : List Asked
    pub more : List Asked
    pub cames : List Came
    pub last : Came
    pub behind : List Came
    pub split : all ≡ done ++ more
    pub each : StreamsGive h done (cames ++ last ∷ behind) h'
    pub whole : first_failure (cames ++ last ∷ behind) ≡ None
    pub said : says (length cames) last ≢ []
    pub few : length behind < max_window

  -- what was asked for went so
  abbrev pub BodyGives : H → Result (List Asked) PushFault → Course → H → Type 0
  BodyGives h asked (Unread fault) h' = (asked ≡ Err fault) × (h' ≡ h)
  BodyGives h asked (Whole cames) h' = (all : List Asked) × (asked ≡ Ok all)
      × StreamsGive h all cames h'
      × (first_failure cames ≡ None)
  BodyGives h asked (Broken cames failure) h' = (all : List Asked) × (asked ≡ Ok all)
      × BodyFails h all cames failure h'

  -- What was asked for was given up. A body that was refused led to no call, and its fault is none that is answered by
  -- a 500. A body that was read was given up at a stream of which there is something to say.
  abbrev pub BodyIsLeft : (ℕ → Came → List ℕ) → H → Result (List Asked) PushFault → H → Type 0
  BodyIsLeft says h (Err fault) h' = (fault_failure fault ≡ None) × (h' ≡ h)
  BodyIsLeft says h (Ok all) h' = BodyStops says h all h'

-- the calls of a request with this route, clock, tenant and body went so
pub record RequestGives {H : Type 0} (gives : Giving H) (route : Route) (now : ℕ)
    (tenant body : List ℕ) (h : H)
    (course : Course) (h' : H) : Type 0 where
  pub asked : Result (List Asked) PushFault
  pub asks : AsksFor route now body asked
  pub goes : BodyGives gives tenant h asked course h'

-- and so where they were given up for want of memory
pub record RequestIsLeft {H : Type 0} (gives : Giving H) (route : Route) (now : ℕ)
    (tenant body : List ℕ) (h h' : H)
    : Type 0 where
  pub asked : Result (List Asked) PushFault
  pub asks : AsksFor route now body asked
  pub left : BodyIsLeft gives tenant (said_of route) h asked h'
