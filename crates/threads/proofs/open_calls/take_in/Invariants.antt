use Rattle.threads.specs.Windows.{IsWindow}
use Rattle.threads.proofs.open_calls.take_in.Given as goal

abbrev pub invariant-loop-answer : goal.invariant-loop-answer
invariant-loop-answer g l = IsWindow g.J.TestOpening.table g.J.TestOpening.about l.pass l.answers.items

abbrev pub decreases-loop-answer : goal.decreases-loop-answer
decreases-loop-answer g l = l.answers.len
