use Rattle.std.proofs.Common.{◌≡◌}
use Rattle.keyed.specs.Queues.{receives_as}
use Rattle.owners.proofs.handing.take_shard.Given as goal

abbrev pub invariant-loop : goal.invariant-loop
invariant-loop g l = receives_as l.back ≡ receives_as l.fn.back
