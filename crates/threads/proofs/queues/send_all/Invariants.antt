use Rattle.std.proofs.Common.{◌≡◌}
use Rattle.keyed.specs.Queues.{sends_to}
use Rattle.keyed.specs.declared.binding.Binding.TheVariants.{Bound}
use Rattle.threads.proofs.queues.send_all.Given as goal

abbrev pub invariant-loop-number : goal.invariant-loop-number
invariant-loop-number g l = sends_to l.sender ≡ Bound 1000 1
