use Rattle.std.proofs.Common.{◌≡◌, ◌+◌, length}
use Rattle.std.specs.VecDeque.{deque_len, deque_capacity}
use Rattle.owners.specs.Openings.{home_of}
use Rattle.owners.specs.Routes.{AreRoutes}
use Rattle.ingester.specs.Batches.{AreReceived, IsUnderWay}
use Rattle.ingester.proofs.opened.Ingester.receive_all.Given as goal

abbrev pub invariant-loop-i : goal.invariant-loop-i
invariant-loop-i g l = record {
  received : AreReceived l.fn.pass l.pass l.fn.outcomes.items l.outcomes.items l.i;
  round : IsUnderWay l.self l.pass l.round l.i;
  routes : AreRoutes (home_of l.self) l.round.pass l.routes.items;
  long : length l.routes.items ≡ l.self.about.shards;
  len : deque_len l.outcomes ≡ deque_len l.fn.outcomes + l.i;
  capacity : deque_capacity l.outcomes ≡ deque_capacity l.fn.outcomes;
}
