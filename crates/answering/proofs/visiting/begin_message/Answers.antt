use Rattle.std.proofs.Common.{◌||◌, [], Some, true, refl, ap}
use Rattle.std.proofs.lemmas.Result.{err_from_is_err_and}
use Rattle.pushjson.specs.declared.fault.PushFault.TheVariants.{Memory}
use Rattle.answering.specs.Courses.{Unread, Whole}
use Rattle.answering.proofs.Beginning.{at_once, not_at_once}
use Rattle.answering.proofs.Turning.{not_memory}
use Rattle.answering.proofs.visiting.begin_message.Goals.{in-Fixed+in_ok-put_fixed-in-Fixed, in-NoMemory+in_ok-put_failure-in-NoMemory}
use Rattle.answering.proofs.visiting.begin_message.Goals as goal

pub returns-in_err-put_fixed-in-Fixed-clause-begins : goal.returns-in_err-put_fixed-in-Fixed-clause-begins
returns-in_err-put_fixed-in-Fixed-clause-begins g c =
    let p = err_from_is_err_and c.from_residual.result c.from_residual.ensures.1 in
    rw (p.1, p.2) (λ r is reads.
    not_at_once g.C.Clock.ticks c.args.incoming.now r c.args.message c.now-now.result c.args.clock.now c.now-now.new.self is reads c.now-now.ensures.ticks (Some c.args.outbox.now) (Some c.put_fixed.new.outbox) (Whole []) _ c.in-Fixed.is (refl, refl)
    c.in_err-put_fixed-in-Fixed.field-0.0 c.args.incoming.now c.in_err-put_fixed-in-Fixed.ensures.writes (λ none. refl))

pub returns-in_err-put_failure-in-NoMemory-clause-begins : goal.returns-in_err-put_failure-in-NoMemory-clause-begins
returns-in_err-put_failure-in-NoMemory-clause-begins g c =
    let p = err_from_is_err_and c.from_residual-in_err-put_failure-in-NoMemory.result c.from_residual-in_err-put_failure-in-NoMemory.ensures.1 in
    let fault = c.in_err-put_failure-in-NoMemory.field-0.0 in
    rw (p.1, p.2) (λ r is reads.
    not_at_once g.C.Clock.ticks c.args.incoming.now r c.args.message c.now-now.result c.args.clock.now c.now-now.new.self is reads c.now-now.ensures.ticks (Some c.args.outbox.now) (Some c.put_failure.new.outbox) (Unread Memory) _ c.in-NoMemory.is (refl, refl)
    fault c.args.incoming.now c.in_err-put_failure-in-NoMemory.ensures.writes (λ none. absurd (not_memory fault c.in_err-put_failure-in-NoMemory.ensures.fault none)))

pub returns-clause-begins : goal.returns-clause-begins
returns-clause-begins g c r is reads =
    let m = c.args.message in
    rw c.turn_after.ensures (elim c.match-message.branch [
      | in-Fixed+in_ok-put_fixed-in-Fixed w ↦
          rw (w.outbox-is, w.closes-is) (at_once g.C.Clock.ticks c.args.incoming.now r m c.now-now.result c.args.clock.now c.now-now.new.self is reads c.now-now.ensures.ticks (Some c.args.outbox.now) (Some w.put_fixed.new.outbox) (Whole []) _ w.in-Fixed.is (refl, refl)
          _ c.finish.new.self w.in_ok-put_fixed-in-Fixed.ensures.writes (ap (λ b. b || m.closes) w.always_closes.ensures) c.finish.ensures)
      | in-NoMemory+in_ok-put_failure-in-NoMemory w ↦
          rw (w.outbox-is, w.closes-is) (at_once g.C.Clock.ticks c.args.incoming.now r m c.now-now.result c.args.clock.now c.now-now.new.self is reads c.now-now.ensures.ticks (Some c.args.outbox.now) (Some w.put_failure.new.outbox) (Unread Memory) _ w.in-NoMemory.is (refl, refl)
          true c.finish.new.self w.in_ok-put_failure-in-NoMemory.ensures.writes refl c.finish.ensures)
    ])
