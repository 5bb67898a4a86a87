-- The streams of a push by their places in its body, taken window by window; for private clauses.
use Rattle.std.specs.Prelude.{◌≡◌, ◌≢◌, ◌<◌, ◌≤◌, ℕ, ◌+◌, ◌^◌, List, [], ◌∷◌, ◌++◌, length, Option, None, Some, Result, Ok, Err}
use Rattle.labels.specs.Faults.{first_fault}
use Rattle.labels.specs.declared.fault.LabelFault.{LabelFault}
use Rattle.accept.specs.declared.call.Call.{Call}
use Rattle.accept.specs.declared.call.Reply.{Reply}
use Rattle.accept.specs.declared.fault.CallFault.{CallFault}
use Rattle.requests.specs.declared.route.Route.TheVariants.{Push}
use Rattle.answering.specs.declared.lines.PushLines.{PushLines}
use Rattle.answering.specs.declared.responding.NoAnswer.{NoAnswer}
use Rattle.answering.specs.declared.responding.NoAnswer.TheVariants as no_answers
use Rattle.answering.specs.Asking.{Asked, AsksFor, IsCallOf}
use Rattle.answering.specs.Calls.{max_window, Giving, Came, Refused, Replied, Failed}
use Rattle.answering.specs.Courses.{first_failure, StreamsGive}
use Rattle.answering.specs.Lines.{came_lines}
use Rattle.answering.specs.Parts.{BodyIsAnswered}
use Rattle.answering.specs.Telling.{Tells}

-- at each place the labels of the stream are refused, or its call is the next of these
abbrev pub AreStreams : List ℕ → List Asked → List (Option LabelFault) → List Call → Type 0
AreStreams tenant [] [] [] = Unit {0}
AreStreams tenant (a ∷ more) (Some fault ∷ places) calls = (first_fault a.pairs ≡ Some fault)
    × AreStreams tenant more places calls
AreStreams tenant (a ∷ more) (None ∷ places) (call ∷ calls) = IsCallOf tenant a call
    × AreStreams tenant more places calls
AreStreams tenant all places calls = ⊥

-- the body of a push asks for streams with these places and calls
abbrev pub AsksForStreams : ℕ → List ℕ → List ℕ → List (Option LabelFault) → List Call → Type 0
AsksForStreams now tenant body places calls = (all : List Asked) × AsksFor Push now body (Ok all)
    × AreStreams tenant all places calls

-- no call of a window is on its way
pub record IsEmptyWindow {O : Type 0} (calls : List Call) (outcomes : List O) : Type 0 where
  pub calls_is : calls ≡ []
  pub outcomes_is : outcomes ≡ []

-- after a window no call is on its way, and this many streams more are in the lines
pub record IsWindowOver {O : Type 0} (calls : List Call) (outcomes : List O)
    (streams old new : ℕ) : Type 0 where
  pub fresh : IsEmptyWindow calls outcomes
  pub count : new ≡ old + streams

-- how many places have a call
abbrev pub called : List (Option LabelFault) → ℕ
called [] = 0
called (Some fault ∷ places) = called places
called (None ∷ places) = called places + 1

-- These places fit the next window: the calls that they have are left, a window of this size has room for them, the
-- places are at most as many as a window takes, and the lines can count them.
pub record FitWindow (places : List (Option LabelFault)) (size left streams : ℕ) : Type 0 where
  pub enough : called places ≤ left
  pub room : called places ≤ size
  pub few : length places ≤ max_window
  pub counted : streams + length places < 2 ^ 64

abbrev pub came_of : Result Reply CallFault → Came
came_of (Ok reply) = Replied reply
came_of (Err failure) = Failed failure

-- what came of streams, by their places and what came of the calls
abbrev pub merged : List (Option LabelFault) → List (Result Reply CallFault) → List Came
merged [] outcomes = []
merged (Some fault ∷ places) outcomes = Refused fault ∷ merged places outcomes
merged (None ∷ places) [] = []
merged (None ∷ places) (r ∷ rs) = came_of r ∷ merged places rs

-- a push without memory for its lines ends for the first failure, if there is one
abbrev pub no_answer_by : Option CallFault → NoAnswer
no_answer_by None = no_answers.GivenUp
no_answer_by (Some failure) = no_answers.Failed failure

-- after others these came, and of one of these there is something to say
pub record StopsAmong (before cames : List Came) : Type 0 where
  pub first : List Came
  pub last : Came
  pub behind : List Came
  pub split : before ++ cames ≡ first ++ last ∷ behind
  pub said : came_lines (length first) last ≢ []
  pub few : length behind < length cames

-- after others these came, and one of them failed; or none did, and there was no memory for the lines
abbrev pub EndsSo : NoAnswer → List Came → List Came → Type 0
EndsSo (no_answers.Failed failure) before cames = first_failure (before ++ cames) ≡ Some failure
EndsSo no_answers.GivenUp before cames = (first_failure (before ++ cames) ≡ None)
    × StopsAmong before cames

-- after others these came, and they were taken into the lines, or not
abbrev pub AreNoted : List Came → List Came → Result (Unit {0}) NoAnswer → PushLines → Type 0
AreNoted before cames (Ok u) new = (first_failure (before ++ cames) ≡ None)
    × Tells (before ++ cames) new
AreNoted before cames (Err no_answer) new = EndsSo no_answer before cames

-- the same up to where there was no memory: one of those after that may have failed
abbrev pub AreNotedUpTo : List Came → List Came → Result (Unit {0}) NoAnswer → PushLines → Type 0
AreNotedUpTo before cames (Err no_answers.GivenUp) new = StopsAmong before cames
AreNotedUpTo before cames result new = AreNoted before cames result new

-- these were taken into the lines, and those are left
pub record AreNotedTo (before cames left : List Came) (lines : PushLines) : Type 0 where
  pub noted : List Came
  pub split : before ++ cames ≡ noted ++ left
  pub whole : first_failure noted ≡ None
  pub tells : Tells noted lines
  pub few : length left ≤ length cames

module _ {H : Type 0} (gives : Giving H) (tenant : List ℕ) (h : H) (all : List Asked) where
  -- of these streams the first were taken, none of them failed, and these are left
  pub record StreamsAreTaken (h' : H) (places : List (Option LabelFault)) (calls : List Call)
      (lines : PushLines) : Type 0 where
    pub done : List Asked
    pub more : List Asked
    pub cames : List Came
    pub split : all ≡ done ++ more
    pub left : AreStreams tenant more places calls
    pub each : StreamsGive gives tenant h done cames h'
    pub whole : first_failure cames ≡ None
    pub tells : Tells cames lines

  -- the streams of a window were taken
  abbrev pub WindowIsTaken : Result (Unit {0}) NoAnswer → H → List (Option LabelFault) → List Call
      → PushLines
      → Type 0
  WindowIsTaken (Ok u) h' places calls lines = StreamsAreTaken h' places calls lines
  WindowIsTaken (Err no_answer) h' places calls lines = BodyIsAnswered gives tenant h all (Err no_answer) h'
