use Rattle.std.proofs.Common.{◌≡◌, ◌+◌, ◌++◌, vec_len}
use Rattle.walsplit.specs.Announced.{slots_within}
use Rattle.walsplit.proofs.announced.announce.Given as goal

abbrev pub invariant-loop-shard : goal.invariant-loop-shard
invariant-loop-shard g l = record {
  count : vec_len l.announced + l.shard-iterator.iter.rest.len ≡ vec_len l.fn.slots;
  slots : slots_within l.announced.items ++ l.shard-iterator.iter.rest.items ≡ l.fn.slots.items;
}
