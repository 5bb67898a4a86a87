use Rattle.std.proofs.Common.{◌≡◌, ◌+◌}
use Rattle.std.specs.Prelude.{drop}
use Rattle.std.specs.VecDeque.{deque_len, deque_capacity}
use Rattle.owners.specs.Openings.{home_of}
use Rattle.owners.specs.Routes.{IsRoute}
use Rattle.ingester.specs.Collected.{HasOpenThere, AreReceivedOn}
use Rattle.ingester.proofs.opened.Ingester.receive_shard.Given as goal

abbrev pub invariant-loop-i : goal.invariant-loop-i
invariant-loop-i g l = record {
  received : AreReceivedOn l.shard l.fn.pass l.pass l.fn.outcomes.items l.outcomes.items l.i;
  table : l.pass.table ≡ l.self.table;
  own : l.pass.caller.pass ≡ l.fn.pass.caller.pass;
  open_there : HasOpenThere l.pass.caller l.shard (drop l.i l.numbers);
  route : IsRoute (home_of l.self) l.fn.pass.caller.pass l.shard l.route;
  len : deque_len l.outcomes ≡ deque_len l.fn.outcomes + l.i;
  capacity : deque_capacity l.outcomes ≡ deque_capacity l.fn.outcomes;
}
