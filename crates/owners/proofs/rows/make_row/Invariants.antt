use Rattle.std.proofs.Common.{◌≡◌, ◌+◌, ◌≤◌, length}
use Rattle.std.specs.Vec.{vec_capacity}
use Rattle.std.specs.VecDeque.{deque_len, deque_capacity}
use Rattle.owners.specs.Lists.{AreEach}
use Rattle.owners.specs.QueueEnds.{IsShardQueues, AreShardQueues}
use Rattle.owners.specs.Routes.{AreIdleRoutes}
use Rattle.owners.proofs.rows.make_row.Given as goal

abbrev pub invariant-loop-queues : goal.invariant-loop-queues
invariant-loop-queues l = record {
  row : AreIdleRoutes l.home l.pass l.row.items;
  same : length l.row.items ≡ length l.done.items;
  done : AreShardQueues l.home (l.pass + 1) l.done.items;
  left : AreEach (IsShardQueues l.home l.pass) (length l.done.items) l.all_queues.items;
  count : length l.done.items + length l.all_queues.items ≡ l.count;
  room : l.count ≤ vec_capacity l.row;
  room_done : l.count ≤ deque_capacity l.done;
}

abbrev pub decreases-loop-queues : goal.decreases-loop-queues
decreases-loop-queues l = deque_len l.all_queues
