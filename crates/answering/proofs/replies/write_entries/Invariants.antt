use Rattle.std.proofs.Common.{◌≡◌, ◌++◌}
use Rattle.std.specs.Vec.Iter.{into_iter_items}
use Rattle.answering.proofs.Writing.{entries_tokens}
use Rattle.answering.proofs.replies.write_entries.Given as goal

abbrev pub invariant-loop-entry : goal.invariant-loop-entry
invariant-loop-entry l = (l.out.before ≡ l.initial.out.before) × (l.out.tokens ++ entries_tokens (into_iter_items l.entry-iterator) ≡ l.initial.out.tokens ++ entries_tokens l.fn.entries.items)
