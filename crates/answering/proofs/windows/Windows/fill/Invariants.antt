use Rattle.std.proofs.Common.{◌≡◌, ◌+◌, ◌++◌, drop}
use Rattle.std.specs.VecDeque.{deque_len}
use Rattle.answering.specs.Windows.{called}
use Rattle.answering.proofs.windows.Windows.fill.Given as goal

abbrev pub invariant-loop-place : goal.invariant-loop-place
invariant-loop-place l = record {
  split : l.initial.self.left.items ≡ l.self.calls.items ++ l.self.left.items;
  count : deque_len l.self.calls + called (drop l.place-index l.places) ≡ called l.places;
  left : deque_len l.self.left + deque_len l.self.calls ≡ deque_len l.initial.self.left;
  outcomes : l.self.outcomes ≡ l.initial.self.outcomes;
  size : l.self.size ≡ l.initial.self.size;
}
