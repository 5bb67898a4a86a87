use Rattle.std.proofs.Common.{◌≡◌, ◌+◌, ◌≤◌, length}
use Rattle.std.specs.Vec.{vec_capacity}
use Rattle.std.specs.VecDeque.{deque_len, deque_capacity}
use Rattle.owners.specs.Bonds.{ReceiveFrom}
use Rattle.owners.specs.Homes.{home_with}
use Rattle.owners.specs.Lists.{AreEach}
use Rattle.owners.specs.Openings.{opening_of}
use Rattle.owners.specs.Owners.{AreEnds}
use Rattle.owners.specs.QueueEnds.{IsShardQueues}
use Rattle.owners.proofs.plan.make_all_ends.Given as goal

abbrev pub invariant-loop-shard : goal.invariant-loop-shard
invariant-loop-shard g l = let opening = opening_of l.first l.logs.items in record {
  all_queues : AreEach (IsShardQueues (home_with l.first) l.passes) l.shard l.all_queues.items;
  left : l.shard + deque_len l.all_queues ≡ l.shard-end;
  ends : AreEnds opening l.all_ends.items;
  ends_len : length l.all_ends.items ≡ l.shard;
  ends_room : l.shard-end ≤ deque_capacity l.all_ends;
  backs : ReceiveFrom opening l.backs.items;
  backs_len : length l.backs.items ≡ l.shard;
  backs_room : l.shard-end ≤ vec_capacity l.backs;
}
