use Rattle.crossbeam_channel.specs.Claims.{view}
use Rattle.keyed.proofs.BindingKept.{sends}
use Rattle.keyed.proofs.ends.QueueSender.send.Goals as goal

pub send_as-requires-clause-rule : goal.send_as-requires-clause-rule
send_as-requires-clause-rule g c = (sends g.P.Fits.fits _ _ (view c.args.self.now.port) c.args.message c.requires, λ _ _ _ _. tt)
