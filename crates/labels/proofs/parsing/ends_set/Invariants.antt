use Rattle.std.proofs.Common.{◌-◌}
use denote.Text.{Utf8}
use denote.Shadow.{shadow}
use Rattle.labels.specs.Faults.{max_labels}
use Rattle.labels.specs.Canonical.{EndsSet}
use Rattle.labels.proofs.parsing.ends_set.Given as goal

-- the text ends a set exactly where what is left of it does
abbrev pub invariant-loop-count : goal.invariant-loop-count
invariant-loop-count l =
    shadow (Utf8 l.last) × shadow (Utf8 l.rest)
    × (EndsSet l.last (max_labels - l._count) l.rest → EndsSet l.first (max_labels - 1) l.text)
    × (EndsSet l.first (max_labels - 1) l.text → EndsSet l.last (max_labels - l._count) l.rest)
