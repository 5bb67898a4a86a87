use Rattle.std.proofs.Common.{◌≡◌, ◌+◌, ◌≤◌, ◌++◌, map}
use Rattle.std.specs.Prelude.{vec_len}
use Rattle.std.specs.VecDeque.{deque_len, deque_capacity}
use Rattle.wal.specs.Opening.{disks}
use Rattle.openings.proofs.returning.give_back.Given as goal

abbrev pub invariant-loop-log : goal.invariant-loop-log
invariant-loop-log g l = record {
  items : map disks l.logs.items ++ l.slots.items ≡ map disks l.initial.logs.items ++ l.initial.slots.items;
  room : vec_len l.logs + deque_len l.slots ≤ deque_capacity l.slots;
  capacity : deque_capacity l.slots ≡ deque_capacity l.initial.slots;
}

abbrev pub decreases-loop-log : goal.decreases-loop-log
decreases-loop-log g l = goal.left-loop-log g l
