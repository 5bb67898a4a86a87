use Rattle.std.proofs.Common.{◌≡◌, ◌+◌, ◌≤◌, ◌++◌, Bool, List, All, Result}
use Rattle.std.specs.VecDeque.{deque_len, deque_capacity}
use Rattle.headline.proofs.Common.{AreNumbers, Reply, CallFault}
use Rattle.whole.proofs.Common.{CallsGive, CallsGiveAfter, Two, opening_with, AreServing, FirstGives}
use Rattle.whole.proofs.by_turns.ByTurnsCalls.call_all.Given as goal

abbrev pub invariant-loop-call : goal.invariant-loop-call
invariant-loop-call g l = record {
  ready : AreServing g.D.Disk.sight g.D.Disk.follows l.self.history.now (opening_with l.self.start.value) l.pass;
  numbers : All AreNumbers l.calls.items;
  given : (doubt : Bool) × ((rs : List (Result Reply CallFault)) (h : Two g.row.D.Denot) → CallsGiveAfter FirstGives doubt l.pass l.calls.items rs h → CallsGive FirstGives l.initial.pass l.initial.calls.items (l.outcomes.items ++ rs) h);
  lens : deque_len l.outcomes + deque_len l.calls ≡ deque_len l.initial.calls;
  room : deque_len l.outcomes + deque_len l.calls ≤ deque_capacity l.outcomes;
  calls_room : deque_capacity l.calls ≡ deque_capacity l.initial.calls;
  outcomes_room : deque_capacity l.outcomes ≡ deque_capacity l.initial.outcomes;
}

abbrev pub decreases-loop-call : goal.decreases-loop-call
decreases-loop-call g l = deque_len l.calls
