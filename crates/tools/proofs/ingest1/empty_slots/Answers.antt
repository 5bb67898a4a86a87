use Rattle.std.proofs.Common.{◌∙◌, ◌++◌, List, [], ◌∷◌, ap}
use Rattle.memory_disk.specs.declared.memory.MemDisk.{MemDisk}
use Rattle.tools.proofs.ingest1.empty_slots.Goals as goal

pub returns-clause-empty : goal.returns-clause-empty
returns-clause-empty c =
    let first = c.in_ok-first.first in
    let second = c.in_ok-second.second in
    record {
      first = first;
      second = second;
      slots_are = c.push_reserved.ensures.items ∙ ap (λ (l : List (List MemDisk)). l ++ (first ∷ second ∷ []) ∷ []) c.in_ok-slots.ensures.items;
      first_empty = record { none = c.in_ok-first.ensures.empty; synced = c.in_ok-first.ensures.synced };
      second_empty = record { none = c.in_ok-second.ensures.empty; synced = c.in_ok-second.ensures.synced };
    }
