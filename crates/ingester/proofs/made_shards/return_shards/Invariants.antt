use Rattle.std.proofs.Common.{◌≡◌, ◌+◌, ◌++◌, map}
use Rattle.std.specs.Prelude.{vec_len}
use Rattle.std.specs.VecDeque.{deque_len, deque_capacity}
use Rattle.wal.specs.Opening.{disks}
use Rattle.ingester.specs.Makings.{AreShardsIn, logs_of_shards}
use Rattle.ingester.proofs.made_shards.return_shards.Given as goal

abbrev pub invariant-loop-last : goal.invariant-loop-last
invariant-loop-last g l = record {
  items : map disks (logs_of_shards l.shards.items) ++ l.slots.items ≡ map disks (logs_of_shards l.initial.shards.items) ++ l.initial.slots.items;
  shards : AreShardsIn l.ended l.shards.items;
  len : vec_len l.shards + deque_len l.slots ≡ vec_len l.initial.shards + deque_len l.initial.slots;
  capacity : deque_capacity l.slots ≡ deque_capacity l.initial.slots;
}

abbrev pub decreases-loop-last : goal.decreases-loop-last
decreases-loop-last g l = vec_len l.shards
