use Rattle.std.proofs.Common.{Err, ap}
use Rattle.std.proofs.lemmas.List.{take_rest}
use Rattle.disk.specs.Calls.{Interrupted}
use Rattle.disk.proofs.FileLemmas.{length-rest, write-loop-on, write-loop-again, write-loop-broke, write-loop-so-far, write-loop-whole, call-loop-on, served-failed}
use Rattle.disk.proofs.file.FileDiskDisk.write_at.Goals as goal
use Rattle.disk.proofs.file.FileDiskDisk.write_at.Goals.{in-Ok, in-Err-Interrupted}

pub returns-then-from-bytes-clause-written : goal.returns-then-from-bytes-clause-written
returns-then-from-bytes-clause-written c follows le =
    write-loop-whole c.args.self.now.calls.noted c.loop.self.calls.noted c.args.at c.loop.from c.args.bytes.now c.loop.invariant.writes c.if-from-bytes.true follows le

pub returns-then-from-bytes-clause-writes : goal.returns-then-from-bytes-clause-writes
returns-then-from-bytes-clause-writes c follows le =
    write-loop-so-far c.args.self.now.calls.noted c.loop.self.calls.noted c.args.at c.loop.from _ _ c.args.bytes.now c.loop.invariant.writes follows le

pub returns-clause-writes : goal.returns-clause-writes
returns-clause-writes c follows le =
    write-loop-so-far c.args.self.now.calls.noted c.loop.self.calls.noted c.args.at c.loop.from _ _ c.args.bytes.now c.loop.invariant.writes follows le

pub returns-in-Ok-eq0-clause-writes : goal.returns-in-Ok-eq0-clause-writes
returns-in-Ok-eq0-clause-writes c follows le =
    let first = c.args.self.now.calls.noted in
    let old = c.loop.self.calls.noted in
    let new = c.write_some.new.self.noted in
    write-loop-so-far first new c.args.at _ _ _ c.args.bytes.now
    (write-loop-on first old new c.args.at c.loop.from c.in-Ok-eq0.field-0 c.args.bytes.now _ c.loop.invariant.writes
    (take_rest c.args.bytes.now c.loop.from) c.in-Ok-eq0.ensures.within c.write_some.ensures.before
    c.in-Ok-eq0.ensures.written) follows le

pub returns-in-Err-Failed-clause-writes : goal.returns-in-Err-Failed-clause-writes
returns-in-Err-Failed-clause-writes c follows le =
    write-loop-broke c.args.self.now.calls.noted c.loop.self.calls.noted c.write_some.new.self.noted c.args.at c.loop.from _ _ c.args.bytes.now _ c.loop.invariant.writes
    (length-rest c.args.bytes.now c.loop.from) c.write_some.ensures.before c.in-Err-Failed.ensures.broke follows le

pub returns-in-Ok-eq0-clause-calls : goal.returns-in-Ok-eq0-clause-calls
returns-in-Ok-eq0-clause-calls c =
    served-failed _ c.loop.counter c.args.at _ _ c.loop.self.calls.noted.calls _ _ c.loop.invariant.calls c.in-Ok-eq0.ensures.ok c.in-Ok-eq0.field-0-test

pub returns-in-Err-Failed-clause-calls : goal.returns-in-Err-Failed-clause-calls
returns-in-Err-Failed-clause-calls c =
    served-failed _ c.loop.counter c.args.at _ _ c.loop.self.calls.noted.calls _ _ c.loop.invariant.calls
    (c.in-Err-Failed.ensures.failed (ap Err c.in-Err-Failed.field-0-is)) tt

pub loop-preserved : goal.loop-preserved
loop-preserved c = record {
  writes = elim c.match-write_some.branch [
    | in-Ok w ↦ rw w.from-is (write-loop-on c.args.self.now.calls.noted c.loop.self.calls.noted c.write_some.new.self.noted c.args.at c.loop.from w.in-Ok.n c.args.bytes.now _
        c.loop.invariant.writes (take_rest c.args.bytes.now c.loop.from) w.in-Ok.ensures.within c.write_some.ensures.before w.in-Ok.ensures.written)
    | in-Err-Interrupted w ↦ rw w.from-is (write-loop-again c.args.self.now.calls.noted c.loop.self.calls.noted c.write_some.new.self.noted c.args.at c.loop.from c.args.bytes.now
        c.loop.invariant.writes (w.in-Err-Interrupted.ensures.asks (ap Err w.in-Err-Interrupted.field-0-is)))
  ];
  calls = elim c.match-write_some.branch [
    | in-Ok w ↦ call-loop-on c.loop.counter _ c.loop.self.calls.noted.calls c.write_some.new.self.noted.calls _
        c.loop.invariant.calls w.in-Ok.ensures.ok w.in-Ok.n-test.1
    | in-Err-Interrupted w ↦ call-loop-on c.loop.counter _ c.loop.self.calls.noted.calls c.write_some.new.self.noted.calls Interrupted
        c.loop.invariant.calls (w.in-Err-Interrupted.ensures.interrupted (ap Err w.in-Err-Interrupted.field-0-is)) (λ h. h)
  ];
  count = c.loop.invariant.count;
}
