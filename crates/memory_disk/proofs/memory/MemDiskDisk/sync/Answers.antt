use Rattle.std.proofs.Common.{sym, ◌∙◌}
use Rattle.disk.specs.State.{nothing}
use Rattle.memory_disk.specs.Memory.{acts}
use Rattle.memory_disk.proofs.Records.{when_ok, looks-same}
use Rattle.memory_disk.proofs.memory.MemDiskDisk.sync.Goals as goal
use Rattle.memory_disk.proofs.memory.MemDiskDisk.sync.Goals.{then-next_fails-via-then-next_fails, then-next_fails-via-else-next_fails+then-is_err}

pub returns-then-next_fails-clause-looks : goal.returns-then-next_fails-clause-looks
returns-then-next_fails-clause-looks c = elim c.then-next_fails.branch [
  | then-next_fails-via-then-next_fails w ↦ rw w.self-is (looks-same nothing (acts c.args.self.now.steps.items c.args.self.now.written.items) _ _)
  | then-next_fails-via-else-next_fails+then-is_err w ↦ rw w.self-is (w.make_sync.ensures.looks _ _)
]

pub returns-clause-synced : goal.returns-clause-synced
returns-clause-synced c = when_ok c.make_sync.result (sym c.is_err.ensures.value ∙ c.if-is_err.false) c.make_sync.ensures.synced 0

pub returns-clause-looks : goal.returns-clause-looks
returns-clause-looks c = c.make_sync.ensures.looks _ _
