use Rattle.std.proofs.Common.{◌≡◌, ◌≤◌, length}
use Rattle.std.specs.Vec.{vec_capacity}
use Rattle.std.specs.VecDeque.{deque_capacity}
use Rattle.owners.specs.QueueEnds.{AreShardQueues, AreRows}
use Rattle.owners.proofs.rows.make_rows.Given as goal

abbrev pub invariant-loop-shard : goal.invariant-loop-shard
invariant-loop-shard l = record {
  all_queues : AreShardQueues l.home 0 l.all_queues.items;
  len : length l.all_queues.items ≡ l.shard;
  room : l.shards ≤ deque_capacity l.all_queues;
}

abbrev pub invariant-loop-pass : goal.invariant-loop-pass
invariant-loop-pass l = record {
  all_queues : AreShardQueues l.home l.pass l.all_queues.items;
  len : length l.all_queues.items ≡ l.shards;
  rows : AreRows l.home l.shards l.rows.items;
  count : length l.rows.items ≡ l.pass;
  room : l.passes ≤ vec_capacity l.rows;
}
