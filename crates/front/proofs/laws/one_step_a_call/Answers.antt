use Rattle.front.proofs.Gaining.{its_calls, its_first_calls, their_calls}
use Rattle.front.proofs.laws.one_step_a_call.Goals as goal

pub returns : goal.returns
returns g c = record {
  each = its_calls g.C.Clock.ticks;
  left = its_first_calls g.C.Clock.ticks;
  all = their_calls g.C.Clock.ticks;
}
