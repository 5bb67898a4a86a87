use Rattle.front.proofs.Lines.{line_of}
use Rattle.front.proofs.laws.sockets_say_what_visits_put.Goals as goal

pub returns : goal.returns
returns g c = λ kept over calls is. line_of g.C.Clock.ticks (λ k. k.connection) kept over calls is
