use Rattle.headline.proofs.Ending.{histories, says}
use Rattle.headline.proofs.laws.headline.Goals as goal

pub returns-clause-says : goal.returns-clause-says
returns-clause-says g c = λ life is. (
  histories g.D.Disk.sight g.D.Disk.follows g.met.D.Disk.only_now life is,
  says g.D.Disk.sight g.D.Disk.follows g.met.D.Disk.only_now life is,
)
