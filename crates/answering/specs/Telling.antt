-- The answer to a push while its streams are taken; for private clauses.
use Rattle.std.specs.Prelude.{◌≡◌, ◌≢◌, List, [], ◌∷◌, ◌++◌, None, length, Result, Ok, Err, OnOk}
use Rattle.std.specs.declared.alloc.AllocError.{AllocError}
use Rattle.answering.specs.declared.lines.PushLines.{PushLines}
use Rattle.answering.specs.declared.responding.NoAnswer.{NoAnswer}
use Rattle.answering.specs.declared.responding.NoAnswer.TheVariants as no_answers
use Rattle.answering.specs.Calls.{Came, Failed}
use Rattle.answering.specs.Courses.{first_failure}
use Rattle.answering.specs.Lines.{came_lines, lines_from, push_status}

-- this came of the streams so far
pub record Tells (cames : List Came) (lines : PushLines) : Type 0 where
  pub streams : lines.streams ≡ length cames
  pub text : lines.text.items ≡ lines_from 0 cames
  pub status : lines.status ≡ push_status cames

-- the lines tell of one stream more
abbrev pub TellsNext : Came → PushLines → PushLines → Type 0
TellsNext came old new = (cames : List Came) → Tells cames old → Tells (cames ++ came ∷ []) new

-- the next stream was taken in
abbrev pub NotesNext : Came → PushLines → PushLines → Result (Unit {0}) AllocError → Type 0
NotesNext came old new result = OnOk result (TellsNext came old new)

-- this came of the next stream, and it was taken in, unless it failed
abbrev pub CameIsNoted : Came → PushLines → Result (Unit {0}) NoAnswer → PushLines → Type 0
CameIsNoted came old (Ok u) new = (first_failure (came ∷ []) ≡ None) × TellsNext came old new
CameIsNoted came old (Err (no_answers.Failed failure)) new = came ≡ Failed failure
CameIsNoted came old (Err no_answers.GivenUp) new = (first_failure (came ∷ []) ≡ None)
    × (came_lines old.streams came ≢ [])
