use Rattle.crossbeam_channel.specs.Claims.{view}
use Rattle.keyed.specs.Bindings.{bound_to}
use Rattle.keyed.proofs.BindingKept.{begins, ties}
use Rattle.keyed.proofs.queues.bound_queue.Goals as goal

pub bounded_with-requires-clause-rule : goal.bounded_with-requires-clause-rule
bounded_with-requires-clause-rule g c = begins g.P.Fits.fits

pub another-other-requires-clause-rule : goal.another-other-requires-clause-rule
another-other-requires-clause-rule g c = ties g.P.Fits.fits _ (view c.in_ok-to.port) (bound_to g.J.Names.binding) c.args.key.now c.args.number c.in_ok-to.ensures.3 c.requires.binding
