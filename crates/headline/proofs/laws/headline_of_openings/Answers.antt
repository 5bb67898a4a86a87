use Rattle.headline.proofs.Telling.{all_says}
use Rattle.headline.proofs.laws.headline_of_openings.Goals as goal

pub returns : goal.returns
returns g c = λ n limits lives are. all_says g.D.Disk.sight g.D.Disk.follows g.met.D.Disk.only_now n limits lives are
