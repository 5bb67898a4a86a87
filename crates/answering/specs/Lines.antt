-- The lines of the answer to a push: one for each refusal, in body order.
use Rattle.std.specs.Prelude.{ℕ, ◌+◌, nat_lt, if◌then◌else◌, Bool, true, false, List, [], ◌∷◌, ◌++◌, codes, decimal}
use Rattle.std.specs.List.{fold, list_all}
use Rattle.labels.specs.Faults.{label_words}
use Rattle.accept.specs.declared.outcome.Outcome.{Outcome}
use Rattle.accept.specs.declared.outcome.Outcome.TheVariants as outcomes
use Rattle.accept.specs.declared.call.Reply.TheVariants as replies
use Rattle.requests.specs.declared.status.Status.{Status}
use Rattle.requests.specs.declared.status.Status.TheVariants as statuses
use Rattle.answering.specs.Calls.{Came, Refused, Replied}

abbrev pub newline : List ℕ
newline = 10 ∷ []

-- a refusal of the stream at place i of the body
unfoldable pub stream_line : ℕ → List ℕ → List ℕ
stream_line i words = codes "stream " ++ decimal i ++ codes ": " ++ words ++ newline

-- how a refusal of its entry at place j begins
unfoldable pub entry_front : ℕ → ℕ → List ℕ
entry_front i j = codes "stream " ++ decimal i ++ codes " entry " ++ decimal j ++ codes ": "

abbrev pub entry_line : ℕ → ℕ → List ℕ → List ℕ
entry_line i j words = entry_front i j ++ words ++ newline

-- what is written of an outcome: nothing where it is no refusal
abbrev pub outcome_line : ℕ → ℕ → Outcome → List ℕ
outcome_line i j outcomes.TooLong = entry_line i j (codes "line too long")
outcome_line i j outcomes.BadMetadata = entry_line i j (codes "bad metadata")
outcome_line i j outcomes.TooOld = entry_line i j (codes "too old")
outcome_line i j outcomes.TooNew = entry_line i j (codes "too new")
outcome_line i j (outcomes.TooFarBehind oldest) =
    entry_front i j ++ codes "too far behind, oldest accepted is "
    ++ decimal oldest ++ newline
outcome_line i j outcome = []

-- the lines of a batch, whose first entry has place j
abbrev pub outcome_lines : ℕ → ℕ → List Outcome → List ℕ
outcome_lines i j [] = []
outcome_lines i j (o ∷ os) = outcome_line i j o ++ outcome_lines i (j + 1) os

-- the lines of what came of the stream at place i; no answer tells of a call that failed
abbrev pub came_lines : ℕ → Came → List ℕ
came_lines i (Refused fault) = stream_line i (label_words fault)
came_lines i (Replied (replies.Verdict os)) = outcome_lines i 0 os
came_lines i (Replied replies.NoRoom) = stream_line i (codes "no room")
came_lines i (Replied replies.Unavailable) = stream_line i (codes "unavailable")
came_lines i came = []

-- the lines of what came of the streams from place i on
abbrev pub lines_from : ℕ → List Came → List ℕ
lines_from i [] = []
lines_from i (c ∷ cs) = came_lines i c ++ lines_from (i + 1) cs

-- how bad a status of a push is: unavailable goes before no room, no room before another refusal
abbrev pub severity : Status → ℕ
severity statuses.NoContent = 0
severity statuses.BadRequest = 1
severity statuses.InsufficientStorage = 2
severity statuses.ServiceUnavailable = 3
severity status = 4

abbrev pub worse_of : Status → Status → Status
worse_of first second = if nat_lt (severity first) (severity second) then second else first

-- the entry was stored, now or before
abbrev pub is_taken : Outcome → Bool
is_taken outcomes.Repeat = true
is_taken outcomes.Stored = true
is_taken outcome = false

-- the status of a push of one stream, of which this came
abbrev pub came_status : Came → Status
came_status (Refused fault) = statuses.BadRequest
came_status (Replied (replies.Verdict os)) =
    if list_all is_taken os then statuses.NoContent else statuses.BadRequest
came_status (Replied replies.NoRoom) = statuses.InsufficientStorage
came_status (Replied replies.Unavailable) = statuses.ServiceUnavailable
came_status came = statuses.NoContent

-- the status of a push of which this came: the worst of its streams
abbrev pub push_status : List Came → Status
push_status cames = fold (λ worst came. worse_of worst (came_status came)) statuses.NoContent cames
