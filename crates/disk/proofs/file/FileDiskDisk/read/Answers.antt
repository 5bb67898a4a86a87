use Rattle.std.proofs.Common.{◌≤◌, ◌+◌, ℕ, take, Err, ap, sym, subst, ◌∙◌, arith}
use Rattle.disk.specs.Calls.{IsRead, Interrupted}
use Rattle.disk.specs.CallRecord.{sight_by}
use Rattle.disk.proofs.FileLemmas.{length-rest, read-loop-on, read-loop-again, call-loop-on, served-ok, served-failed}
use Rattle.disk.proofs.file.FileDiskDisk.read.Goals as goal
use Rattle.disk.proofs.file.FileDiskDisk.read.Goals.{in-Ok, in-Err-Interrupted}

pub returns-in-Ok-eq0-clause-calls : goal.returns-in-Ok-eq0-clause-calls
returns-in-Ok-eq0-clause-calls c =
    served-ok _ _ c.args.at _ _ _ (call-loop-on c.loop.counter _ c.loop.self.calls.noted.calls _ _ c.loop.invariant.calls c.in-Ok-eq0.ensures.ok (λ h. h))
    (omega (arith, c.if-at-buf.false))

pub returns-in-Err-Failed-clause-calls : goal.returns-in-Err-Failed-clause-calls
returns-in-Err-Failed-clause-calls c =
    served-failed _ c.loop.counter c.args.at _ _ c.loop.self.calls.noted.calls _ _ c.loop.invariant.calls
    (c.in-Err-Failed.ensures.failed (ap Err c.in-Err-Failed.field-0-is)) tt

pub loop-preserved : goal.loop-preserved
loop-preserved c = record {
  reads = elim c.match-read_some.branch [
    | in-Ok w ↦ rw w.from-is (read-loop-on c.args.self.now.calls.noted c.loop.self.calls.noted c.read_some.new.self.noted c.args.at c.loop.from w.in-Ok.n c.loop.buf c.read_some.new.buf
        c.loop.invariant.reads c.read_some.ensures.asks (c.read_some.auto.buf ∙ length-rest c.loop.buf c.loop.from)
        (subst (λ (k : ℕ). w.in-Ok.n ≤ k) (sym c.read_some.auto.buf) w.in-Ok.ensures.within)
        (λ follows. subst (λ (k : ℕ). IsRead (sight_by c.loop.self.calls.noted 0).seen (c.args.at + c.loop.from) k (take w.in-Ok.n c.read_some.new.buf))
        (length-rest c.loop.buf c.loop.from) (w.in-Ok.ensures.bytes follows)))
    | in-Err-Interrupted w ↦ rw w.from-is (read-loop-again c.args.self.now.calls.noted c.loop.self.calls.noted c.read_some.new.self.noted c.args.at c.loop.from c.loop.buf c.read_some.new.buf
        c.loop.invariant.reads c.read_some.ensures.asks (c.read_some.auto.buf ∙ length-rest c.loop.buf c.loop.from))
  ];
  calls = elim c.match-read_some.branch [
    | in-Ok w ↦ call-loop-on c.loop.counter _ c.loop.self.calls.noted.calls c.read_some.new.self.noted.calls _ c.loop.invariant.calls w.in-Ok.ensures.ok (λ h. h)
    | in-Err-Interrupted w ↦ call-loop-on c.loop.counter _ c.loop.self.calls.noted.calls c.read_some.new.self.noted.calls Interrupted
        c.loop.invariant.calls (w.in-Err-Interrupted.ensures.interrupted (ap Err w.in-Err-Interrupted.field-0-is)) (λ h. h)
  ];
  count = c.loop.invariant.count;
}
