use Rattle.std.proofs.Common.{◌≡◌, ◌++◌, map, drop}
use Rattle.pairs.specs.Labels.{label_of}
use Rattle.answering.proofs.Writing.{pairs_tokens}
use Rattle.answering.proofs.replies.write_pairs.Given as goal

abbrev pub invariant-loop-name : goal.invariant-loop-name
invariant-loop-name l = (l.out.before ≡ l.initial.out.before) × (l.out.tokens ++ pairs_tokens (drop l.name-index (map label_of l.pairs)) ≡ l.initial.out.tokens ++ pairs_tokens (map label_of l.pairs))
