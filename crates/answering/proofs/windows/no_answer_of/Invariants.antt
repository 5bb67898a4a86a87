use Rattle.std.proofs.Common.{◌≡◌, drop, map}
use Rattle.answering.specs.Courses.{first_failure}
use Rattle.answering.specs.Windows.{came_of}
use Rattle.answering.proofs.windows.no_answer_of.Given as goal

abbrev pub invariant-loop-place : goal.invariant-loop-place
invariant-loop-place l = first_failure (map came_of (drop l.initial.first l.outcomes.items)) ≡ first_failure (map came_of (drop l.place l.outcomes.items))
