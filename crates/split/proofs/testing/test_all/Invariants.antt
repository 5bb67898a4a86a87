use Rattle.std.proofs.Common.{◌≡◌}
use Rattle.std.specs.Prelude.{vec_len}
use Rattle.split.specs.Stages.{AreDone, IsTested}
use Rattle.split.proofs.testing.test_all.Given as goal

abbrev pub invariant-loop-shard : goal.invariant-loop-shard
invariant-loop-shard g l = record {
  len : vec_len l.new ≡ vec_len l.initial.new;
  done : AreDone (λ _. IsTested g.D.Disk.sight g.D.Disk.follows) l.shard l.initial.new.items l.new.items;
}
