use Rattle.headline.proofs.Untouched.{nothing_before}
use Rattle.headline.proofs.laws.opening_writes_nothing.Goals as goal

pub returns : goal.returns
returns g c = λ life is. nothing_before g.D.Disk.sight g.D.Disk.follows life is
