use Rattle.std.specs.Prelude.{false}
use Rattle.headline.proofs.Together.{in_order}
use Rattle.headline.proofs.laws.calls_happen_in_order.Goals as goal

pub returns : goal.returns
returns g c = λ opening old new calls outcomes is. in_order opening false old new calls outcomes is
