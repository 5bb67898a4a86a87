use Rattle.std.proofs.Common.{◌≡◌, vec_len}
use Rattle.programs.specs.Slots.{AreUntouched}
use Rattle.programs.proofs.slots.open_slots.Given as goal

abbrev pub invariant-loop-shard : goal.invariant-loop-shard
invariant-loop-shard g l = record {
  count : vec_len l.slots ≡ l.shard;
  untouched : AreUntouched l.slots.items;
}
