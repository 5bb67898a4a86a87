use Rattle.pushjson.specs.Bodies.{HaveRisingNames}
use Rattle.pushjson.proofs.Beginnings.{all_batches, low_batches}
use Rattle.pushjson.proofs.push.read_push.Goals as goal

pub returns-clause-sorted : goal.returns-clause-sorted
returns-clause-sorted c = rw c.in_ok-batches.ensures.1 (all_batches HaveRisingNames _ c.in_ok-streams.ensures.sorted)

pub returns-clause-range : goal.returns-clause-range
returns-clause-range c = rw c.in_ok-batches.ensures.1 (low_batches _ c.in_ok-batches.ensures.0)
