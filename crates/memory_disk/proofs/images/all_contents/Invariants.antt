use Rattle.std.proofs.Common.{◌≡◌, ◌-◌}
use Rattle.memory_disk.specs.Images.{contents}
use Rattle.memory_disk.specs.Beginnings.{open_bytes, all_beginnings, of_lengths}
use Rattle.memory_disk.proofs.images.all_contents.Given as goal

abbrev pub invariant-loop-i : goal.invariant-loop-i
invariant-loop-i l = record {
  fronts : contents l.fronts.items ≡ all_beginnings (open_bytes l.mask l.now l.values) l.i;
  found : contents l.found.items ≡ of_lengths (open_bytes l.mask l.now l.values) l.low (l.i - l.low);
}
