use Rattle.std.specs.List.{All}
use Rattle.std.specs.VecDeque.{deque_len}
use Rattle.shard.specs.Turns.{AreReady}
use Rattle.lone_shard.specs.Passes.{IsIdlePass}
use Rattle.lone_shard.proofs.lone.LoneShard.announce_each.Given as goal

abbrev pub invariant-loop-call : goal.invariant-loop-call
invariant-loop-call g l = record {
  idle : All (IsIdlePass l.self.history) l.passes.items;
  ready : AreReady l.self.shard.book l.jobs.items;
}

abbrev pub decreases-loop-call : goal.decreases-loop-call
decreases-loop-call g l = deque_len l.calls
