use Rattle.std.proofs.Common.{◌≡◌, ◌+◌, ◌≤◌, vec_len}
use Rattle.std.specs.VecDeque.{deque_len, deque_capacity}
use Rattle.ingester.specs.Makings.{AreGround}
use Rattle.ingester.proofs.Grounding.{IsPartly}
use Rattle.ingester.proofs.building.make_shards.Given as goal

abbrev pub invariant-loop-log : goal.invariant-loop-log
invariant-loop-log g l = record {
  ground : AreGround g.D.Disk.sight g.D.Disk.follows l.limits l.logs.items l.images.items l.books.items;
  images : vec_len l.images ≡ vec_len l.logs;
  books : vec_len l.books ≡ vec_len l.logs;
  partly : IsPartly l.shards.items l.logs.items l.fn.ground.logs.items l.books.items l.fn.ground.books.items;
  slots : l.slots ≡ l.initial.slots;
  made : vec_len l.logs + deque_len l.shards ≡ vec_len l.fn.ground.logs;
  room : vec_len l.fn.ground.logs ≤ deque_capacity l.shards;
}

abbrev pub decreases-loop-log : goal.decreases-loop-log
decreases-loop-log g l = vec_len l.logs
