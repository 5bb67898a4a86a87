use Rattle.std.proofs.Common.{◌≡◌, ◌+◌, List, drop, None}
use Rattle.std.specs.VecDeque.{deque_len}
use Rattle.answering.specs.Calls.{Came}
use Rattle.answering.specs.Courses.{first_failure}
use Rattle.answering.specs.Telling.{Tells}
use Rattle.answering.specs.Windows.{called, merged, AreNotedTo}
use Rattle.answering.proofs.windows.note_places.Given as goal

abbrev pub invariant-loop-place : goal.invariant-loop-place
invariant-loop-place l = record {
  due : l.next + called (drop l.place-index l.places) ≡ deque_len l.outcomes;
  noted : (before : List Came) → Tells before l.initial.lines → first_failure before ≡ None
      → AreNotedTo before (merged l.places (drop l.initial.next l.outcomes.items)) (merged (drop l.place-index l.places) (drop l.next l.outcomes.items)) l.lines;
  count : l.lines.streams ≡ l.initial.lines.streams + l.place-index;
}
