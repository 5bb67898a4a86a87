use Rattle.std.proofs.Common.{◌≡◌, ◌+◌, ◌≤◌, ◌++◌, All, map}
use Rattle.std.specs.VecDeque.{deque_len, deque_capacity}
use Rattle.openings.specs.Places.{AreSlotsThere, slots_in}
use Rattle.openings.proofs.side_by_side.put_back.Given as goal

abbrev pub invariant-loop-place : goal.invariant-loop-place
invariant-loop-place g l = record {
  here : All AreSlotsThere l.places.items;
  items : l.slots.items ++ map slots_in l.places.items ≡ map slots_in l.initial.places.items;
  room : deque_len l.slots + deque_len l.places ≤ deque_capacity l.slots;
  capacity : deque_capacity l.slots ≡ deque_capacity l.initial.slots;
}

abbrev pub decreases-loop-place : goal.decreases-loop-place
decreases-loop-place g l = deque_len l.places
