use Rattle.std.proofs.Common.{◌≡◌}
use Rattle.ingester.specs.Closings.{AreComparedTo}
use Rattle.ingester.proofs.closing.compare.Given as goal

abbrev pub invariant-loop-i : goal.invariant-loop-i
invariant-loop-i g l = record {
  passes : l.passes ≡ l.initial.passes;
  shard : l.shard ≡ l.initial.shard;
  compared : AreComparedTo l.initial.shard.book l.initial.passes l.i;
}
