use Rattle.std.specs.VecDeque.{deque_len}
use Rattle.workers.proofs.clerk.give_back.Given as goal

abbrev pub decreases-loop-returned : goal.decreases-loop-returned
decreases-loop-returned g l = deque_len l.visited.sessions
