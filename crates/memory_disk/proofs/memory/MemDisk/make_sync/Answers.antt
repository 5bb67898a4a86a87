use Rattle.std.proofs.Common.{rules, refl}
use Rattle.memory_disk.specs.Memory.{acts}
use Rattle.memory_disk.proofs.Records.{IsRecord, record-sync, memory-sync, memory-synced, memory-looks}
use Rattle.memory_disk.proofs.memory.MemDisk.make_sync.Goals as goal

kept : (c : goal.After-len-self-2) → IsRecord c.push.new.self.items c.args.self.now.written.items c.args.self.now.bytes.items c.len-self.result c.len-self-2.result
kept c = record-sync c.args.self.now.steps.items c.push.new.self.items c.args.self.now.written.items c.args.self.now.bytes.items
    c.args.self.now.synced_steps c.args.self.now.synced_len c.len-self.result c.len-self-2.result
    (record { whole = c.args.self.now.whole; same = c.args.self.now.same; synced = c.args.self.now.synced; within = c.args.self.now.within; since = c.args.self.now.since })
    c.in_ok-push.ensures.items (search rules) (search rules)

pub invariant_of-self-2 : goal.invariant_of-self-2
invariant_of-self-2 c = record { whole = (kept c).whole; same = (kept c).same; synced = (kept c).synced; within = (kept c).within; since = (kept c).since }

pub returns-clause-synced : goal.returns-clause-synced
returns-clause-synced c = λ f. memory-synced (acts c.args.self.now.steps.items c.args.self.now.written.items) _ f
    (memory-sync c.args.self.now.steps.items _ c.args.self.now.written.items _ (c.in_ok-push.ensures.items, refl))

pub returns-clause-looks : goal.returns-clause-looks
returns-clause-looks c = λ f f'. memory-looks (acts c.args.self.now.steps.items c.args.self.now.written.items) _ f f'
    (memory-sync c.args.self.now.steps.items _ c.args.self.now.written.items _ (c.in_ok-push.ensures.items, refl))

pub returns-clause-records : goal.returns-clause-records
returns-clause-records c = memory-sync c.args.self.now.steps.items _ c.args.self.now.written.items _ (c.in_ok-push.ensures.items, refl)
