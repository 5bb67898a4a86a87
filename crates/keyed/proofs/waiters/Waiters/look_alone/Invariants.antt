use Rattle.std.proofs.Common.{◌≡◌}
use Rattle.keyed.specs.Queues.{receives_as}
use Rattle.keyed.proofs.waiters.Waiters.look_alone.Given as goal

abbrev pub invariant-loop : goal.invariant-loop
invariant-loop g l = receives_as l.from ≡ receives_as l.initial.from
