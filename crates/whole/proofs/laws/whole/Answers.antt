use Rattle.whole.proofs.Wholes.{wholes}
use Rattle.whole.proofs.laws.whole.Goals as goal

pub returns : goal.returns
returns g c = λ given opening ends workers lines are lines_are. wholes g.D.Disk.sight g.D.Disk.follows g.met.D.Disk.only_now g.C.Clock.ticks given opening ends workers lines are lines_are
