use Rattle.std.proofs.Common.{◌≡◌, ◌+◌}
use Rattle.std.specs.Prelude.{All}
use Rattle.std.specs.VecDeque.{deque_len, deque_capacity}
use Rattle.accept.specs.Calls.{AreNumbers}
use Rattle.ingester.specs.Batches.{HasIdleRoutes}
use Rattle.ingester.specs.Calls.{IsPassOf}
use Rattle.ingester.proofs.Receiving.{IsSoFar}
use Rattle.ingester.proofs.opened.Ingester.call_by.Given as goal

abbrev pub invariant-loop-alloc : goal.invariant-loop-alloc
invariant-loop-alloc g l = record {
  given : IsSoFar l.self l.fn.pass l.pass l.fn.calls.items l.calls.items l.outcomes.items;
  pass : IsPassOf l.self l.pass;
  own : l.pass.caller.pass ≡ l.fn.pass.caller.pass;
  routes : HasIdleRoutes l.self l.fn.pass.caller.pass l.routes.items;
  lens : deque_len l.outcomes + deque_len l.calls ≡ deque_len l.fn.calls;
  calls : deque_capacity l.calls ≡ deque_capacity l.fn.calls;
  outcomes : deque_capacity l.outcomes ≡ deque_capacity l.fn.outcomes;
  numbers : All AreNumbers l.calls.items;
}

abbrev pub decreases-loop-alloc : goal.decreases-loop-alloc
decreases-loop-alloc g l = deque_len l.calls
