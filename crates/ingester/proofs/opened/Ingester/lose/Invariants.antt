use Rattle.std.proofs.Common.{◌≡◌, ◌+◌, ◌-◌, ◌≤◌, ◌++◌}
use Rattle.std.specs.VecDeque.{deque_len, deque_capacity}
use Rattle.ingester.specs.Batches.{doubts}
use Rattle.ingester.proofs.opened.Ingester.lose.Given as goal

abbrev pub invariant-loop : goal.invariant-loop
invariant-loop g l = record {
  least : l.from ≤ l.counter;
  items : l.outcomes.items ≡ l.fn.outcomes.items ++ doubts (l.counter - l.from);
  len : deque_len l.outcomes + l.from ≡ deque_len l.fn.outcomes + l.counter;
  capacity : deque_capacity l.outcomes ≡ deque_capacity l.fn.outcomes;
}
