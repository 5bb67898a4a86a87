-- How `ingestctl` and `ingest1` end, and with which exit status.
use Rattle.std.specs.Prelude.{◌≡◌, ◌⊎◌, ◌≤◌, ℕ, List, [], ◌∷◌, ◌++◌, length, codes, decimal, Option, None, Some, IfSome, String, Ok, option_map, string_bytes}
use Rattle.std.specs.FinMap as finite
use Rattle.std.specs.Io.KnownBytes.{Appends}
use Rattle.std.specs.declared.alloc.Global.{Global}
use Rattle.accept.specs.declared.limits.Limits.{Limits}
use Rattle.memory_disk.specs.declared.memory.MemDisk.{MemDisk}
use Rattle.history.specs.Handles.{Passed}
use Rattle.requests.specs.Answers.{code_of}
use Rattle.requests.specs.Framings.{max_body}
use Rattle.requests.specs.declared.answer.Answer.{Answer}
use Rattle.requests.specs.declared.route.Route.{Route}
use Rattle.requests.specs.declared.route.Route.TheVariants.{Push}
use Rattle.requests.specs.declared.status.Status.{Status}
use Rattle.requests.specs.declared.status.Status.TheVariants as statuses
use Rattle.answering.specs.Responses.{RequestIsAnswered}
use Rattle.owners.specs.Openings.{Opening}
use Rattle.front.specs.Calls.{CallGives}
use Rattle.programs.specs.declared.said.CallWords.{CallWords}
use Rattle.programs.specs.declared.environment.Environment.{Environment}
use Rattle.programs.specs.Environments.{limits_of}
use Rattle.programs.specs.Words.{SaysCall, SaysClock, capacity_of}
use Rattle.front.specs.declared.program_fault.ProgramFault.{ProgramFault}
use Rattle.front.specs.declared.program_fault.ProgramFault.TheVariants.{Output}
use Rattle.front.specs.Stops.{stop_status}
use Rattle.front.specs.Openings.{IsOpenedUnder}

-- an answer that was written: 0 for 200 and 204, else 1
abbrev pub answer_status : Status → ℕ
answer_status statuses.Ok = 0
answer_status statuses.NoContent = 0
answer_status _ = 1

-- its status on a line, and its body
abbrev pub answer_lines : Answer → List ℕ
answer_lines answer = decimal (code_of answer.status) ++ codes "\n" ++ answer.body.items

-- The body that an input is: all its bytes, where they are known, and no more than a body may have.
pub record IsBodyOf (input : Option (List ℕ)) (body : List ℕ) : Type 0 where
  pub whole : IfSome input (λ bytes. body ≡ bytes)
  pub short : length body ≤ max_body

-- The answer that is due to a request with this body, by the one pass of an opening of this number of shards under
-- these limits.
pub record IsAnswerDue {D : Type 0} (opening : Opening D) (limits : Limits) (shards capacity : ℕ)
    (route : Route) (now : ℕ) (tenant body : List ℕ) (answer : Answer)
    : Type 0 where
  pub before : Passed
  pub after : Passed
  pub opened : IsOpenedUnder limits shards 1 capacity opening (before ∷ [])
  pub answers : RequestIsAnswered CallGives route now tenant body before
      (Ok answer) after

-- what is due to a request with this body, as the words say it
pub record IsDueToCall (D : Type 0) (call : CallWords) (limits : Limits) (capacity : ℕ)
    (body : List ℕ) (answer : Answer) : Type 0 where
  pub opening : Opening D
  pub tenant : List ℕ
  pub named : call.tenant ≡ Ok tenant
  pub due : IsAnswerDue opening limits call.shards capacity call.route call.now tenant body answer

-- what is due to a push of this body by the tenant `t`, on one shard that has no stream
pub record IsDueToPush (D : Type 0) (limits : Limits) (now : ℕ) (body : List ℕ) (answer : Answer)
    : Type 0 where
  pub opening : Opening D
  pub empty : opening.about.bases ≡ finite.empty ∷ []
  pub due : IsAnswerDue opening limits 1 (capacity_of None) Push now (codes "t") body answer

-- How `ingestctl` ended, by what its output held before and after: its words or a setting were wrong; or the answer
-- that is due to them was written; or it stopped, and where that is not for its output, nothing was written.
pub data CallEnds (D : Type 0) (words : List (String Global)) (environment : Environment)
    (input before after : Option (List ℕ))
    (status : ℕ) : Type 0 where
  unasked_call : status ≡ 2 → after ≡ before
      → CallEnds D words environment input before after status
  answered_call : (call : CallWords) → SaysCall words call → (body : List ℕ)
      → IsBodyOf input body
      → (limits : Limits) → limits_of environment ≡ Some limits → (answer : Answer)
      → IsDueToCall D call limits (capacity_of (option_map string_bytes environment.capacity)) body answer
      → Appends before after (answer_lines answer) → status ≡ answer_status answer.status
      → CallEnds D words environment input before after status
  stopped_call : (stop : ProgramFault) → (stop ≡ Output) ⊎ (after ≡ before) → status ≡ stop_status stop
      → CallEnds D words environment input before after status

-- How `ingest1` ended: its word or a setting was wrong; or the answer that is due to a push of its input at the time of
-- its word was written, and what was read back; or it stopped, and where its opening was refused, nothing was written.
pub data PushEnds (words : List (String Global)) (environment : Environment)
    (input before after : Option (List ℕ))
    (status : ℕ) : Type 0 where
  unasked_push : status ≡ 2 → after ≡ before → PushEnds words environment input before after status
  answered_push : (now : ℕ) → SaysClock words now → (body : List ℕ) → IsBodyOf input body
      → (limits : Limits) → limits_of environment ≡ Some limits
      → (answer : Answer) → IsDueToPush MemDisk limits now body answer → (back : List ℕ)
      → Appends before after (answer_lines answer ++ back) → status ≡ 0
      → PushEnds words environment input before after status
  stopped_push : (stop : ProgramFault) → (stop_status stop ≡ 3 → after ≡ before)
      → status ≡ stop_status stop
      → PushEnds words environment input before after status
