use Rattle.std.proofs.Common.{◌≡◌}
use Rattle.keyed.specs.Queues.{receives_as}
use Rattle.keyed.proofs.ends.QueueReceiver.look.Given as goal

abbrev pub invariant-loop : goal.invariant-loop
invariant-loop g l = receives_as l.self ≡ receives_as l.initial.self
