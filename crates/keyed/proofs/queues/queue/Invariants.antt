use Rattle.keyed.specs.declared.binding.Binding.TheVariants.{Bound}
use Rattle.keyed.proofs.queues.queue.Given as goal

abbrev pub ghosts-bound_queue : goal.ghosts-bound_queue
ghosts-bound_queue g a = record { binding = Bound a.key.now a.number }
