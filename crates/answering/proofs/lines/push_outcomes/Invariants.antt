use Rattle.std.proofs.Common.{◌≡◌, ◌++◌, drop}
use Rattle.answering.specs.Lines.{outcome_lines}
use Rattle.answering.proofs.lines.push_outcomes.Given as goal

abbrev pub invariant-loop-outcome : goal.invariant-loop-outcome
invariant-loop-outcome l =
    (l.entry ≡ l.outcome-index) × (l.text.items ++ outcome_lines l.stream l.entry (drop l.entry l.outcomes) ≡ l.initial.text.items ++ outcome_lines l.stream 0 l.outcomes)
