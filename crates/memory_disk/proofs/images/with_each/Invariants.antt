use Rattle.std.proofs.Common.{◌≡◌, ◌++◌, take}
use Rattle.memory_disk.specs.Images.{contents}
use Rattle.memory_disk.specs.Beginnings.{each_longer, extended}
use Rattle.memory_disk.proofs.images.with_each.Given as goal

abbrev pub invariant-loop-front : goal.invariant-loop-front
invariant-loop-front l = contents l.all.items ≡ each_longer (contents (take l.front-index l.fronts)) l.values

abbrev pub invariant-loop-value : goal.invariant-loop-value
invariant-loop-value l = contents l.all.items ≡ contents l.initial.all.items ++ extended l.front.items (take l.value-index l.values)
