use Rattle.crossbeam_channel.specs.Claims.{view}
use Rattle.keyed.proofs.BindingKept.{gets}
use Rattle.keyed.proofs.ends.QueueReceiver.try_receive.Goals as goal

pub try_recv_as-requires-clause-rule : goal.try_recv_as-requires-clause-rule
try_recv_as-requires-clause-rule g c = (gets g.P.Fits.fits _ (view c.args.self.now.port), λ _ _ _ _. tt)
