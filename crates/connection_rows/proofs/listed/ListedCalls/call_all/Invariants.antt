use Rattle.std.proofs.Common.{◌≡◌, ◌+◌, ◌≤◌, Bool, List, ◌++◌, Result}
use Rattle.std.specs.VecDeque.{deque_len, deque_capacity}
use Rattle.accept.specs.declared.call.Reply.{Reply}
use Rattle.accept.specs.declared.fault.CallFault.{CallFault}
use Rattle.answering.specs.Calls.{CallsGive, CallsGiveAfter}
use Rattle.connection_rows.specs.declared.script.Script.{Script}
use Rattle.connection_rows.proofs.listed.ListedCalls.call_all.Given as goal

abbrev pub invariant-loop-call : goal.invariant-loop-call
invariant-loop-call g l = record {
  given : (doubt : Bool) × ((rs : List (Result Reply CallFault)) (h : Script) → CallsGiveAfter (λ doubt old call told new. Unit {0}) doubt l.pass l.calls.items rs h
      → CallsGive (λ doubt old call told new. Unit {0}) l.initial.pass l.initial.calls.items (l.outcomes.items ++ rs) h);
  lens : deque_len l.outcomes + deque_len l.calls ≡ deque_len l.initial.calls;
  room : deque_len l.outcomes + deque_len l.calls ≤ deque_capacity l.outcomes;
  calls_room : deque_capacity l.calls ≡ deque_capacity l.initial.calls;
  outcomes_room : deque_capacity l.outcomes ≡ deque_capacity l.initial.outcomes;
}

abbrev pub decreases-loop-call : goal.decreases-loop-call
decreases-loop-call g l = deque_len l.calls
