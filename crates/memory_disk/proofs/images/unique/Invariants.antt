use Rattle.std.proofs.Common.{take}
use Rattle.memory_disk.proofs.Lists.{IsUnique}
use Rattle.memory_disk.proofs.images.unique.Given as goal

abbrev pub invariant-loop-value : goal.invariant-loop-value
invariant-loop-value l = IsUnique (take l.value-index l.values) l.found.items
