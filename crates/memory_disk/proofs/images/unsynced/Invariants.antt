use Rattle.std.proofs.Common.{◌≡◌, [], length, take}
use Rattle.memory_disk.specs.Memory.{ranges_after}
use Rattle.memory_disk.specs.Beginnings.{IsMarked}
use Rattle.memory_disk.proofs.images.unsynced.Given as goal

abbrev pub invariant-loop-step : goal.invariant-loop-step
invariant-loop-step l = record {
  long : length l.mask.items ≡ l.len;
  marks : IsMarked l.synced_len (ranges_after [] (take l.step-index l.since)) l.mask.items;
}
