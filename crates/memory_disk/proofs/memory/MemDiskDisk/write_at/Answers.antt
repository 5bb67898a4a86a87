use Rattle.std.proofs.Common.{rules, refl, arith}
use Rattle.memory_disk.specs.Memory.{acts}
use Rattle.memory_disk.proofs.Records.{memory-idle}
use Rattle.memory_disk.proofs.memory.MemDiskDisk.write_at.Goals as goal
use Rattle.memory_disk.proofs.memory.MemDiskDisk.write_at.Goals.{then-at-len-via-then-at-len, then-at-len-via-else-at-len+then-is_err, then-at-len-via-else-at-len+else-is_err+then-fails}

pub returns-clause-writes : goal.returns-clause-writes
returns-clause-writes c le = c.make_write.ensures.writes _ _

pub returns-then-at-len-clause-writes : goal.returns-then-at-len-clause-writes
returns-then-at-len-clause-writes c le = elim c.then-at-len.branch [
  | then-at-len-via-then-at-len w ↦ rw w.self-is (memory-idle (acts c.args.self.now.steps.items c.args.self.now.written.items) _ _ _ _ _ refl)
  | then-at-len-via-else-at-len+then-is_err w ↦ rw w.self-is (w.make_write.ensures.writes _ _)
  | then-at-len-via-else-at-len+else-is_err+then-fails w ↦ rw w.self-is (w.make_write.ensures.writes _ _)
]

pub returns-then-at-len-clause-one_call : goal.returns-then-at-len-clause-one_call
returns-then-at-len-clause-one_call c = record {
  goes_on = search rules;
  calls = search rules;
  room = λ room calls written h. elim c.then-at-len.branch [
    | then-at-len-via-then-at-len w ↦ rw w.self-is (h.0, omega (arith, h.1), omega (arith, h.2))
    | then-at-len-via-else-at-len+then-is_err w ↦ rw w.self-is (w.make_write.ensures.room room calls written h)
    | then-at-len-via-else-at-len+else-is_err+then-fails w ↦ rw w.self-is (w.make_write.ensures.room room calls written h)
  ];
}
