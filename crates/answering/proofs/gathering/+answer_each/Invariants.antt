use Rattle.std.specs.VecDeque.{deque_len}
use Rattle.answering.proofs.gathering.+answer_each.Given as goal

abbrev pub decreases-answer_each : goal.decreases-answer_each
decreases-answer_each g l = deque_len l.connections.now
