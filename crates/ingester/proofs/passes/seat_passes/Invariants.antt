use Rattle.std.proofs.Common.{◌≡◌, ◌+◌, ◌≤◌, ◌++◌, length}
use Rattle.std.specs.Prelude.{vec_len, vec_capacity}
use Rattle.std.specs.VecDeque.{deque_len}
use Rattle.owners.specs.Homes.{Homed}
use Rattle.owners.specs.Lists.{AreEach}
use Rattle.owners.specs.QueueEnds.{AreRows, IsRow, IsSeatAt}
use Rattle.ingester.proofs.passes.seat_passes.Given as goal

abbrev pub invariant-loop-seat : goal.invariant-loop-seat
invariant-loop-seat l = record {
  items : l.passes.items ++ l.seats.items ≡ l.fn.seats.items;
  seats : (home : Homed) → AreEach (IsSeatAt home) 0 l.fn.seats.items → AreEach (IsSeatAt home) (length l.passes.items) l.seats.items;
  rows : (home : Homed) → AreRows home home.about.shards l.fn.rows.items → AreEach (λ p row. IsRow home home.about.shards p row.items) (length l.passes.items) l.rows.items;
  same : deque_len l.rows ≡ deque_len l.seats;
  room : vec_len l.passes + deque_len l.seats ≤ vec_capacity l.passes;
}

abbrev pub decreases-loop-seat : goal.decreases-loop-seat
decreases-loop-seat l = deque_len l.seats
