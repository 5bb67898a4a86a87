-- What a connection is answered with: the responses to the requests in the bytes read, up to the first that closes.
use Rattle.std.specs.Prelude.{◌≡◌, ◌⊎◌, ℕ, ◌||◌, Bool, true, false, List, [], ◌∷◌, ◌++◌, take, Option, None, Some, Result, Ok, Err}
use Rattle.std.specs.List.{flat_map}
use Rattle.std.specs.Io.KnownBytes.{Appends, Consumes, IsAtEnd}
use Rattle.pushjson.specs.declared.fault.PushFault.TheVariants as bodies
use Rattle.requests.specs.Answers.{answer_text, fixed_text, failure_text, always_closes}
use Rattle.requests.specs.Fields.{fields_of}
use Rattle.requests.specs.Streams.{Request, ReadsMessage, IsCut, BeginsRefused}
use Rattle.requests.specs.Verdicts.{IsVerdict, asks_close}
use Rattle.accept.specs.declared.fault.CallFault.{CallFault}
use Rattle.accept.specs.declared.fault.CallFault.TheVariants as call_faults
use Rattle.requests.specs.declared.fault.ServeFault.{ServeFault}
use Rattle.requests.specs.declared.fault.ServeFault.TheVariants as faults
use Rattle.requests.specs.declared.fault.Served.{Served}
use Rattle.requests.specs.declared.fault.Served.TheVariants.{Ended, Closed}
use Rattle.requests.specs.declared.fixed.FixedAnswer.{FixedAnswer}
use Rattle.requests.specs.declared.route.Route.{Route}
use Rattle.requests.specs.declared.verdict.Verdict.{Verdict}
use Rattle.requests.specs.declared.verdict.Verdict.TheVariants.{Fixed, Call, NoMemory}
use Rattle.answering.specs.Calls.{Giving}
use Rattle.answering.specs.Courses.{Course, Unread, Whole, RequestGives, RequestIsLeft}
use Rattle.answering.specs.Responses.{status_for, text_for, content_for, failure_in}

-- a request, what it is, the time that the clock told for it, and how its calls went
pub record Exchange : Type 0 where
  pub request : Request
  pub verdict : Verdict
  pub now : ℕ
  pub course : Course

-- the failure that is answered by a 500
abbrev pub failure_at : Verdict → Course → Option CallFault
failure_at (Fixed answer) course = None
failure_at (Call route tenant) course = failure_in course
failure_at NoMemory course = Some call_faults.Memory

abbrev pub is_failed : Option CallFault → Bool
is_failed None = false
is_failed (Some failure) = true

-- the answer to calls that went so, or that ended at this failure
abbrev pub called_text : Route → Bool → Course → Option CallFault → List ℕ
called_text route close course None =
    answer_text (status_for route course) (content_for (status_for route course)) None close
    (text_for route course)
called_text route close course (Some failure) = failure_text failure

abbrev pub response_text : Verdict → Bool → Course → List ℕ
response_text (Fixed answer) close course = fixed_text answer close
response_text (Call route tenant) close course = called_text route close course (failure_in course)
response_text NoMemory close course = failure_text call_faults.Memory

-- whether the connection ends after the response, to a request that asks for it or not
abbrev pub ends_behind : Verdict → Bool → Course → Bool
ends_behind (Fixed answer) close course = always_closes answer || close
ends_behind (Call route tenant) close course = is_failed (failure_in course) || close
ends_behind NoMemory close course = true

abbrev pub asked_to_close : Request → Bool
asked_to_close r = asks_close r.head.minor (fields_of r.head)

-- the exact bytes of the response
abbrev pub response : Exchange → List ℕ
response e = response_text e.verdict (asked_to_close e.request) e.course

abbrev pub closes : Exchange → Bool
closes e = ends_behind e.verdict (asked_to_close e.request) e.course

module _ {H : Type 0} (gives : Giving H) (now : ℕ) (body : List ℕ) where
  -- how the calls of a request went; one with a fixed answer makes none, nor one for whose tenant there was no memory
  abbrev pub VerdictGives : Verdict → H → Course → H → Type 0
  VerdictGives (Fixed answer) h course h' = (course ≡ Whole []) × (h' ≡ h)
  VerdictGives (Call route tenant) h course h' =
      RequestGives gives route now tenant body h course h'
  VerdictGives NoMemory h course h' = (course ≡ Unread bodies.Memory) × (h' ≡ h)

  -- its calls were given up
  abbrev pub VerdictIsLeft : Verdict → H → H → Type 0
  VerdictIsLeft (Call route tenant) h h' = RequestIsLeft gives route now tenant body h h'
  VerdictIsLeft verdict h h' = ⊥

-- what requests change: what is known of the calls, and the clock
pub record World (H C : Type 0) : Type 0 where
  pub knows : H
  pub clock : C

abbrev pub world : {H C : Type 0} → H → C → World H C
world knows clock = record { knows = knows; clock = clock }

-- the two ends of a connection, where they can be told: what its reader may still give, and what its writer has taken
pub record Io : Type 0 where
  pub unread : Option (List ℕ)
  pub written : Option (List ℕ)

abbrev pub io : Option (List ℕ) → Option (List ℕ) → Io
io unread written = record { unread = unread; written = written }

-- no whole request came after the last response
abbrev pub IsUnbegun : List ℕ → Type 0
IsUnbegun rest = (rest ≡ []) ⊎ IsCut rest

module _ {H C : Type 0} (gives : Giving H) (ticks : C → ℕ → C → Type 0) where
  -- the bytes begin with this request, whose calls went so, at the time of the clock
  pub record IsExchange (bytes : List ℕ) (w : World H C) (e : Exchange) (rest : List ℕ)
      (w' : World H C)
      : Type 0 where
    pub message : ReadsMessage bytes e.request rest
    pub verdict : IsVerdict e.request.head.method e.request.head.target
        (fields_of e.request.head) e.verdict
    pub clock : ticks w.clock e.now w'.clock
    pub calls : VerdictGives gives e.now e.request.body e.verdict w.knows e.course w'.knows

  -- the bytes begin with this request, whose calls were given up
  pub record IsAbandoned (bytes : List ℕ) (w w' : World H C) : Type 0 where
    pub request : Request
    pub verdict : Verdict
    pub now : ℕ
    pub rest : List ℕ
    pub message : ReadsMessage bytes request rest
    pub is : IsVerdict request.head.method request.head.target (fields_of request.head) verdict
    pub clock : ticks w.clock now w'.clock
    pub calls : VerdictIsLeft gives now request.body verdict w.knows w'.knows

  -- the bytes are these requests, none of which closes, and then rest
  abbrev pub ConnectionGives : List ℕ → World H C → List Exchange → List ℕ → World H C → Type 0
  ConnectionGives bytes w [] rest w' = (rest ≡ bytes) × (w' ≡ w)
  ConnectionGives bytes w (e ∷ es) rest w' = (mid : List ℕ) × (between : World H C)
      × IsExchange bytes w e mid between × (closes e ≡ false)
      × ConnectionGives mid between es rest w'

  -- the bytes begin with what is refused, and nothing else happened
  abbrev pub IsTurnedAway : List ℕ → World H C → List ℕ → World H C → Type 0
  IsTurnedAway bytes w text w' = (why : FixedAnswer) × BeginsRefused bytes why
      × (text ≡ fixed_text why true)
      × (w' ≡ w)

  -- the bytes begin with a request, or with what is refused, and this is the response
  abbrev pub IsNextResponse : List ℕ → World H C → List ℕ → World H C → Type 0
  IsNextResponse bytes w text w' =
      ((e : Exchange) × (rest : List ℕ) × IsExchange bytes w e rest w' × (text ≡ response e))
      ⊎ IsTurnedAway bytes w text w'

  -- there was no memory for the response, which is not of status 500
  abbrev pub IsUnanswered : List ℕ → World H C → World H C → Type 0
  IsUnanswered bytes w w' =
      ((e : Exchange) × (rest : List ℕ) × IsExchange bytes w e rest w'
      × (failure_at e.verdict e.course ≡ None))
      ⊎ ((text : List ℕ) × IsTurnedAway bytes w text w')

  -- and it closes
  abbrev pub IsLastResponse : List ℕ → World H C → List ℕ → World H C → Type 0
  IsLastResponse bytes w text w' =
      ((e : Exchange) × (rest : List ℕ) × IsExchange bytes w e rest w' × (closes e ≡ true)
      × (text ≡ response e))
      ⊎ IsTurnedAway bytes w text w'

  -- nothing happened after the last response
  abbrev pub IsSilent : World H C → List ℕ → World H C → Type 0
  IsSilent w text w' = (text ≡ []) × (w' ≡ w)

  -- how the connection ended, where no further request was answered with the connection kept: text is what is written
  -- of the last response, and left what the reader may still give
  abbrev pub ConnectionEnds : List ℕ → Option (List ℕ) → World H C → List ℕ → World H C
      → Result Served ServeFault
      → Type 0
  ConnectionEnds rest left w text w' (Ok Ended) = (rest ≡ []) × IsAtEnd left × IsSilent w text w'
  ConnectionEnds rest left w text w' (Ok Closed) = IsLastResponse rest w text w'
  ConnectionEnds rest left w text w' (Err faults.CutShort) = IsCut rest × IsAtEnd left
      × IsSilent w text w'
  ConnectionEnds rest left w text w' (Err faults.Read) = IsUnbegun rest × IsSilent w text w'
  ConnectionEnds rest left w text w' (Err faults.Write) = (n : ℕ) × (all : List ℕ)
      × IsNextResponse rest w all w'
      × (text ≡ take n all)
  ConnectionEnds rest left w text w' (Err faults.Memory) =
      (text ≡ []) × ((IsUnbegun rest × IsSilent w text w') ⊎ IsUnanswered rest w w'
      ⊎ IsAbandoned rest w w')

  -- from the bytes read to the text written
  pub record ConnectionIsAnswered (bytes : List ℕ) (left : Option (List ℕ)) (w : World H C)
      (text : List ℕ)
      (w' : World H C) (result : Result Served ServeFault) : Type 0 where
    pub exchanges : List Exchange
    pub rest : List ℕ
    pub between : World H C
    pub last : List ℕ
    pub serves : ConnectionGives bytes w exchanges rest between
    pub finishes : ConnectionEnds rest left between last w' result
    pub written : text ≡ flat_map response exchanges ++ last

  -- the reader gave bytes, the writer took a text, and that is what the connection was served
  pub record ConnectionIsServed (ends : Io) (w : World H C) (ends' : Io) (w' : World H C)
      (result : Result Served ServeFault) : Type 0 where
    pub bytes : List ℕ
    pub text : List ℕ
    pub consumes : Consumes ends.unread ends'.unread bytes
    pub appends : Appends ends.written ends'.written text
    pub served : ConnectionIsAnswered bytes ends'.unread w text w' result
