use Rattle.std.proofs.Common.{rules, length, arith, ap}
use Rattle.memory_disk.specs.Memory.{acts}
use Rattle.memory_disk.proofs.Records.{IsRecord, record-write, memory-write, memory-writes}
use Rattle.memory_disk.proofs.memory.MemDisk.make_write.Goals as goal

kept : (c : goal.After-push) → IsRecord c.push.new.self.items c.extend_from_slice.new.self.items c.overwrite.new.all.items c.args.self.now.synced_steps c.args.self.now.synced_len
kept c = record-write c.args.self.now.steps.items _ c.args.self.now.written.items _ c.args.self.now.bytes.items _ c.args.bytes.now
    c.args.self.now.synced_steps c.args.self.now.synced_len c.args.at
    (record { whole = c.args.self.now.whole; same = c.args.self.now.same; synced = c.args.self.now.synced; within = c.args.self.now.within; since = c.args.self.now.since })
    c.requires (search rules) (search rules) (search rules)

pub invariant_of-self-2 : goal.invariant_of-self-2
invariant_of-self-2 c = record { whole = (kept c).whole; same = (kept c).same; synced = (kept c).synced; within = (kept c).within; since = (kept c).since }

pub returns-clause-writes : goal.returns-clause-writes
returns-clause-writes c = λ f f'. memory-writes (acts c.args.self.now.steps.items c.args.self.now.written.items) _ c.args.at c.args.bytes.now f f'
    (memory-write c.args.self.now.steps.items c.push.new.self.items c.args.self.now.written.items c.extend_from_slice.new.self.items c.args.bytes.now c.args.at c.args.self.now.whole (search rules))
    (omega (arith, ap length c.args.self.now.same, c.requires))

pub returns-clause-records : goal.returns-clause-records
returns-clause-records c =
    memory-write c.args.self.now.steps.items c.push.new.self.items c.args.self.now.written.items c.extend_from_slice.new.self.items
    c.args.bytes.now c.args.at c.args.self.now.whole (search rules)
