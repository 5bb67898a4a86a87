use Rattle.std.proofs.Common.{◌≡◌, ℕ, ◌-◌, List, length}
use Rattle.memory_disk.specs.Beginnings.{open_bytes, all_beginnings, of_lengths}
use Rattle.memory_disk.proofs.images.number_of.Given as goal

abbrev pub invariant-loop-i : goal.invariant-loop-i
invariant-loop-i l = record {
  fronts : (now : List ℕ) → l.fronts ≡ length (all_beginnings (open_bytes l.mask now l.values) l.i);
  all : (now : List ℕ) → l.all ≡ length (of_lengths (open_bytes l.mask now l.values) l.low (l.i - l.low));
}
