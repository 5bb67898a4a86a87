use Rattle.std.proofs.Common.{◌≡◌, ◌+◌, ◌≤◌, ◌++◌, All, map, vec_len}
use Rattle.std.specs.Vec.{vec_capacity}
use Rattle.std.specs.VecDeque.{deque_len, deque_capacity}
use Rattle.openings.specs.Places.{IsNotLookedAt, slots_in}
use Rattle.openings.proofs.side_by_side.fill_places.Given as goal

abbrev pub invariant-loop-given : goal.invariant-loop-given
invariant-loop-given g l = record {
  given : All IsNotLookedAt l.places.items;
  items : map slots_in l.places.items ++ l.slots.items ≡ l.initial.slots.items;
  len : vec_len l.places + deque_len l.slots ≡ deque_len l.initial.slots;
  room : deque_len l.initial.slots ≤ vec_capacity l.places;
  capacity : deque_capacity l.slots ≡ deque_capacity l.initial.slots;
}

abbrev pub decreases-loop-given : goal.decreases-loop-given
decreases-loop-given g l = deque_len l.slots
