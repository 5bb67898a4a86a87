use Rattle.std.proofs.Common.{◌+◌, ◌≤◌, All, List, Option, ◌++◌, map, length, vec_len, vec_capacity}
use Rattle.std.specs.VecDeque.{deque_len, deque_capacity}
use Rattle.std.specs.Vec.Iter.{into_iter_items}
use Rattle.labels.specs.declared.fault.LabelFault.{LabelFault}
use Rattle.accept.specs.Calls.{AreNumbers}
use Rattle.accept.specs.declared.call.Call.{Call}
use Rattle.answering.specs.Asking.{HasNumbers, asked_push}
use Rattle.answering.specs.Windows.{AreStreams}
use Rattle.answering.proofs.windows.places_of.Given as goal

abbrev pub invariant-loop-pairs : goal.invariant-loop-pairs
invariant-loop-pairs l = record {
  given : All (λ b. HasNumbers (asked_push l.now b)) (into_iter_items l.pairs-iterator);
  are : (ps : List (Option LabelFault)) (cs : List Call) → AreStreams l.tenant (map (asked_push l.now) (into_iter_items l.pairs-iterator)) ps cs
      → AreStreams l.tenant (map (asked_push l.now) l.fn.batches.items) (l.places.items ++ ps) (l.calls.items ++ cs);
  numbers : All AreNumbers l.calls.items;
  places_fit : vec_len l.places + length (into_iter_items l.pairs-iterator) ≤ vec_capacity l.places;
  calls_fit : deque_len l.calls + length (into_iter_items l.pairs-iterator) ≤ deque_capacity l.calls;
}
