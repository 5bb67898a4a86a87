use Rattle.headline.proofs.Going.{events_say}
use Rattle.headline.proofs.laws.headline_of_events.Goals as goal

pub returns : goal.returns
returns g c = λ first events are. events_say g.D.Disk.sight g.D.Disk.follows g.met.D.Disk.only_now g.met.D.Disk.seen_may_stay first events are
