use Rattle.std.proofs.Common.{ℕ, List}
use Rattle.std.specs.Io.KnownBytes.{Appends}
use Rattle.ingester.specs.Calls.{IsPassOf}
use Rattle.tools.proofs.ingest1.read_back.Given as goal

abbrev pub invariant-loop-batch : goal.invariant-loop-batch
invariant-loop-batch g l =
    (goal.iterator-loop-batch g).can_next l.batch-iterator ×
    (goal.iterator-loop-batch g).is_finite l.batch-iterator × IsPassOf l.ingester l.pass ×
    ((back : List ℕ) × Appends (g.W.Write.contents l.initial.output) (g.W.Write.contents l.output) back)
