use Rattle.std.proofs.Common.{◌≡◌, ◌+◌, ◌++◌}
use Rattle.std.specs.VecDeque.{deque_len, deque_capacity}
use Rattle.owners.proofs.mailbox.move_jobs.Given as goal

abbrev pub invariant-loop-job : goal.invariant-loop-job
invariant-loop-job l = record {
  items : l.to.items ++ l.from.items ≡ l.initial.to.items ++ l.initial.from.items;
  len : deque_len l.to + deque_len l.from ≡ deque_len l.initial.to + deque_len l.initial.from;
  capacity : deque_capacity l.to ≡ deque_capacity l.initial.to;
}

abbrev pub decreases-loop-job : goal.decreases-loop-job
decreases-loop-job l = deque_len l.from
