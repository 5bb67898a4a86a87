use Rattle.std.proofs.Common.{◌≡◌, ◌++◌, string_bytes, map, drop}
use Rattle.pairs.specs.Labels.{label_of}
use Rattle.labels.specs.Canonical.{tail_text}
use Rattle.labels.proofs.writing.push_rest.Given as goal

-- what is left completes the text
abbrev pub invariant-loop-name : goal.invariant-loop-name
invariant-loop-name l = string_bytes l.out ++ tail_text (map label_of (drop l.name-index l.pairs)) ≡ string_bytes l.fn.out ++ tail_text (map label_of l.pairs)
