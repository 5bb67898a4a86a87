use Rattle.std.proofs.Common.{◌+◌, ◌≤◌}
use Rattle.std.specs.Vec.{vec_len, vec_capacity}
use Rattle.std.specs.VecDeque.{deque_len}
use Rattle.shard.specs.Turns.{AreReady}
use Rattle.lone_shard.specs.Passes.{IsSameBook}
use Rattle.lone_shard.proofs.apart.take_turns.Given as goal

abbrev pub invariant-loop : goal.invariant-loop
invariant-loop g l = record {
  ready : AreReady l.shard.book l.jobs.items;
  same : IsSameBook l.initial.shard.book l.shard.book;
  room : vec_len l.settled + deque_len l.jobs ≤ vec_capacity l.settled;
}
