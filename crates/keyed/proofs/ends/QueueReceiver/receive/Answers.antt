use Rattle.crossbeam_channel.specs.Claims.{view}
use Rattle.keyed.proofs.BindingKept.{gets}
use Rattle.keyed.proofs.ends.QueueReceiver.receive.Goals as goal

pub recv_as-requires-clause-rule : goal.recv_as-requires-clause-rule
recv_as-requires-clause-rule g c = (gets g.P.Fits.fits _ (view c.args.self.now.port), λ _ _ _ _. tt)
