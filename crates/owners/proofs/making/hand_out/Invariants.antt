use Rattle.std.proofs.Common.{◌≡◌}
use Rattle.std.specs.Vec.{vec_capacity}
use Rattle.std.specs.VecDeque.{deque_len, deque_capacity}
use Rattle.owners.specs.Homes.{Homed}
use Rattle.owners.specs.Calls.{AreOfCalls}
use Rattle.owners.specs.Mailboxes.{ArePlaces}
use Rattle.owners.proofs.making.hand_out.Given as goal

abbrev pub invariant-loop-next : goal.invariant-loop-next
invariant-loop-next l = record {
  places : (home : Homed) → AreOfCalls home.table l.fn.settled.items → ArePlaces home l.fn.places.items → AreOfCalls home.table l.came.items × ArePlaces home l.places.items;
  capacity : deque_capacity l.came ≡ vec_capacity l.fn.settled;
}

abbrev pub decreases-loop-next : goal.decreases-loop-next
decreases-loop-next l = deque_len l.came
