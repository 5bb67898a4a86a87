-- The answer to a request, by how its calls went.
use Rattle.std.specs.Prelude.{◌≡◌, ◌⊎◌, ℕ, ◌==◌, if◌then◌else◌, List, [], ◌∷◌, ◌++◌, codes, decimal, Option, None, Some, Result, Ok, Err}
use Rattle.pushjson.specs.declared.fault.PushFault.{PushFault}
use Rattle.pushjson.specs.declared.fault.PushFault.TheVariants.{NotJson, WrongShape, BadTime, TooManyEntries, TooManyParts, Memory}
use Rattle.requests.specs.Answers.{code_of, failure_body}
use Rattle.requests.specs.declared.answer.Answer.{Answer}
use Rattle.requests.specs.declared.answer.Content.{Content}
use Rattle.requests.specs.declared.answer.Content.TheVariants.{Text, Json}
use Rattle.accept.specs.declared.fault.CallFault.{CallFault}
use Rattle.accept.specs.declared.fault.CallFault.TheVariants as call_faults
use Rattle.requests.specs.declared.fault.ServeFault.{ServeFault}
use Rattle.requests.specs.declared.fault.ServeFault.TheVariants as faults
use Rattle.requests.specs.declared.route.Route.{Route}
use Rattle.requests.specs.declared.route.Route.TheVariants.{Push}
use Rattle.requests.specs.declared.status.Status.{Status}
use Rattle.requests.specs.declared.status.Status.TheVariants as statuses
use Rattle.answering.specs.declared.responding.NoAnswer.{NoAnswer}
use Rattle.answering.specs.declared.responding.NoAnswer.TheVariants.{Failed, GivenUp}
use Rattle.answering.specs.Calls.{Giving, Came}
use Rattle.answering.specs.Lines.{push_status, lines_from}
use Rattle.answering.specs.Replies.{one_status, one_text}
use Rattle.answering.specs.Showing.{IsShown}
use Rattle.answering.specs.Courses.{Course, Unread, Whole, Broken, fault_failure, RequestGives, RequestIsLeft}

abbrev pub bad_time_text : ℕ → ℕ → List ℕ
bad_time_text i j = codes "bad time at stream " ++ decimal i ++ codes " entry " ++ decimal j

abbrev pub fault_text : PushFault → List ℕ
fault_text NotJson = codes "body is not JSON"
fault_text WrongShape = codes "wrong shape"
fault_text (BadTime i j) = bad_time_text i j
fault_text TooManyEntries = codes "more than 10000 entries"
fault_text TooManyParts = codes "more than 10000 streams or entries"
fault_text Memory = failure_body call_faults.Memory

abbrev pub fault_status : PushFault → Status
fault_status Memory = statuses.InternalServerError
fault_status fault = statuses.BadRequest

-- the status and the text where this came of the streams of a push, or of the one of a read or a trim
abbrev pub single_status : List Came → Status
single_status (c ∷ []) = one_status c
single_status cames = push_status cames

abbrev pub single_text : List Came → List ℕ
single_text (c ∷ []) = one_text c
single_text cames = lines_from 0 cames

abbrev pub cames_status : Route → List Came → Status
cames_status Push cames = push_status cames
cames_status route cames = single_status cames

abbrev pub cames_text : Route → List Came → List ℕ
cames_text Push cames = lines_from 0 cames
cames_text route cames = single_text cames

-- the status of the answer, and its body
abbrev pub status_for : Route → Course → Status
status_for route (Unread fault) = fault_status fault
status_for route (Whole cames) = cames_status route cames
status_for route (Broken cames failure) = statuses.InternalServerError

abbrev pub text_for : Route → Course → List ℕ
text_for route (Unread fault) = fault_text fault
text_for route (Whole cames) = cames_text route cames
text_for route (Broken cames failure) = failure_body failure

-- the failure that ended the calls, which is answered by a 500 that closes
abbrev pub failure_in : Course → Option CallFault
failure_in (Unread fault) = fault_failure fault
failure_in (Whole cames) = None
failure_in (Broken cames failure) = Some failure

-- JSON is what a read and a trim answer with 200, and a push has no 200
abbrev pub content_for : Status → Content
content_for status = if code_of status == 200 then Json else Text

module _ {H : Type 0} (gives : Giving H) (route : Route) (now : ℕ) (tenant body : List ℕ) where
  -- there was no memory before any call, nor for the text that says so
  abbrev pub RequestIsUnsaid : H → H → Type 0
  RequestIsUnsaid h h' = (course : Course) × RequestGives gives route now tenant body h course h'
      × (failure_in course ≡ Some call_faults.Memory) × (h' ≡ h)

  -- what is answered to a request after its head: the answer of how its calls went; or nothing, where memory ran out
  abbrev pub RequestIsAnswered : H → Result Answer ServeFault → H → Type 0
  RequestIsAnswered h (Ok answer) h' = (course : Course)
      × RequestGives gives route now tenant body h course h'
      × IsShown (status_for route course) (text_for route course) answer
  RequestIsAnswered h (Err faults.Memory) h' = RequestIsUnsaid h h'
      ⊎ RequestIsLeft gives route now tenant body h h'
  RequestIsAnswered h (Err fault) h' = ⊥

  -- for private clauses: the same, with failures apart
  abbrev pub RequestEnds : H → Result Answer NoAnswer → H → Type 0
  RequestEnds h (Ok answer) h' =
      (course : Course) × RequestGives gives route now tenant body h course h'
      × (failure_in course ≡ None)
      × IsShown (status_for route course) (text_for route course) answer
  RequestEnds h (Err (Failed failure)) h' = (course : Course)
      × RequestGives gives route now tenant body h course h'
      × (failure_in course ≡ Some failure)
  RequestEnds h (Err GivenUp) h' = RequestIsLeft gives route now tenant body h h'
