use Rattle.std.proofs.Common.{◌≡◌, ◌+◌, ◌^◌, ◌<◌, ◌≤◌, length}
use Rattle.std.specs.Prelude.{All}
use Rattle.std.specs.VecDeque.{deque_len, deque_capacity}
use Rattle.accept.specs.Calls.{AreNumbers}
use Rattle.ingester.specs.Batches.{HasMessages, AreBelow, AreSomeOpen}
use Rattle.ingester.proofs.opened.Ingester.announce_all.Given as goal

abbrev pub invariant-loop-shard : goal.invariant-loop-shard
invariant-loop-shard g l = record {
  some : AreSomeOpen l.fn.pass l.pass l.fn.calls.items l.calls.items l.first l.count;
  messages : HasMessages l.self l.fn.pass.caller.pass l.pass.caller l.routes.items;
  positive : 0 < l.count;
  waiting : length l.pass.caller.pending ≡ l.count;
  calls : deque_len l.calls + l.count ≡ deque_len l.fn.calls;
  capacity : deque_capacity l.calls ≡ deque_capacity l.fn.calls;
  next : l.first + l.count ≡ l.pass.caller.last + 1;
  fits : l.first + l.count ≤ 2 ^ 64;
  table : l.pass.table ≡ l.self.table;
  about : l.pass.caller.about ≡ l.self.about;
  pass : l.pass.caller.pass ≡ l.fn.pass.caller.pass;
  numbers : All AreNumbers l.calls.items;
  below : AreBelow l.self.about.shards l.shards;
  places : length l.shards ≡ 64;
}

abbrev pub decreases-loop-shard : goal.decreases-loop-shard
decreases-loop-shard g l = deque_len l.calls
