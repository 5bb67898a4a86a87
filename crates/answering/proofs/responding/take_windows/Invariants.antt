use Rattle.std.proofs.Common.{◌≡◌, ◌+◌, ◌≤◌, ℕ, All, List, length}
use Rattle.std.specs.VecDeque.{deque_len}
use Rattle.accept.specs.Calls.{AreNumbers}
use Rattle.answering.specs.Asking.{Asked}
use Rattle.answering.specs.Windows.{AreStreams, IsEmptyWindow, StreamsAreTaken, called}
use Rattle.answering.proofs.responding.take_windows.Given as goal

abbrev pub invariant-loop-rest : goal.invariant-loop-rest
invariant-loop-rest g l = record {
  pass : g.S.Calls.is_ready l.service l.pass;
  fresh : IsEmptyWindow l.windows.calls.items l.windows.outcomes.items;
  numbers : All AreNumbers l.windows.left.items;
  size : l.windows.size ≡ l.initial.windows.size;
  taken : (tenant : List ℕ) (all : List Asked) → AreStreams tenant all l.initial.rest l.initial.windows.left.items → StreamsAreTaken (g.S.Calls.gives l.service) tenant l.initial.pass all l.pass l.rest l.windows.left.items l.lines;
  fits : l.lines.streams + length l.rest ≡ length l.initial.rest;
  enough : called l.rest ≤ deque_len l.windows.left;
  most : deque_len l.windows.left ≤ deque_len l.initial.windows.left;
}

abbrev pub decreases-loop-rest : goal.decreases-loop-rest
decreases-loop-rest g l = length l.rest
