use Rattle.crossbeam_channel.specs.Claims.{view}
use Rattle.keyed.proofs.BindingKept.{forks}
use Rattle.keyed.proofs.ends.QueueSender.another.Goals as goal

pub another-port-requires-clause-rule : goal.another-port-requires-clause-rule
another-port-requires-clause-rule g c = forks g.P.Fits.fits _ (view c.args.self.now.port) c.requires
