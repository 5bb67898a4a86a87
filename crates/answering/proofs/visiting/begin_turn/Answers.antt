use Rattle.std.proofs.Common.{Some, subst}
use Rattle.std.proofs.lemmas.Result.{err_from_is_err_and}
use Rattle.requests.specs.Streams.{IsNext}
use Rattle.answering.specs.Beginning.{NoCalls}
use Rattle.answering.specs.Serving.{world}
use Rattle.answering.proofs.Turning.{turned_away, turned_away_err}
use Rattle.answering.proofs.visiting.begin_turn.Goals as goal

pub returns-in_err-put_fixed-in-Refused-clause-begins : goal.returns-in_err-put_fixed-in-Refused-clause-begins
returns-in_err-put_fixed-in-Refused-clause-begins g c =
    let p = err_from_is_err_and c.from_residual.result c.from_residual.ensures.1 in
    let refused = subst (IsNext c.args.incoming.now) c.in-Refused.is c.next.ensures.next in
    rw (p.1, p.2) (turned_away_err NoCalls g.C.Clock.ticks c.args.incoming.now c.args.incoming.now (Some c.args.outbox.now) (Some c.put_fixed.new.outbox) (world tt c.args.clock.now)
    c.in-Refused.why c.in_err-put_fixed-in-Refused.field-0.0 refused c.in_err-put_fixed-in-Refused.ensures.writes)

pub returns-in_ok-put_fixed-in-Refused-clause-begins : goal.returns-in_ok-put_fixed-in-Refused-clause-begins
returns-in_ok-put_fixed-in-Refused-clause-begins g c =
    let refused = subst (IsNext c.args.incoming.now) c.in-Refused.is c.next.ensures.next in
    turned_away NoCalls g.C.Clock.ticks c.args.incoming.now c.args.incoming.now (Some c.args.outbox.now) (Some c.put_fixed.new.outbox) (world tt c.args.clock.now)
    c.in-Refused.why tt refused c.in_ok-put_fixed-in-Refused.ensures.writes
