use Rattle.front.proofs.Ordering.{after_steps}
use Rattle.front.proofs.laws.answers_after_steps.Goals as goal

pub returns : goal.returns
returns g c = after_steps g.C.Clock.ticks
