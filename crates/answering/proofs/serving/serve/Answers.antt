use Rattle.std.proofs.Common.{◌<◌, Ok, Err, [], refl, sym, ap, ◌∙◌, subst, inl, arith}
use Rattle.std.proofs.lemmas.Result.{err_from_is_err_and}
use Rattle.requests.specs.declared.fault.ServeFault.TheVariants.{Memory}
use Rattle.answering.specs.Connections.{Unended}
use Rattle.answering.specs.Ends.{AreSameEnds, IsReadOn}
use Rattle.answering.specs.Serving.{IsUnbegun, world}
use Rattle.answering.specs.declared.ends.Ends.{Ends}
use Rattle.answering.proofs.Lone.{read_more, unwritten, visited_down, visited_on, visited_over}
use Rattle.answering.proofs.Turning.{Went, ends_here, nothing_came, read_ended, read_failed}
use Rattle.answering.proofs.serving.serve.Goals as goal

same_ends : {I O : Type 0} (a b c : Ends I O) → AreSameEnds a b → AreSameEnds b c → AreSameEnds a c
same_ends a b c first more = record { reader = more.reader ∙ first.reader; writer = more.writer ∙ first.writer }

pub returns-in_err-queue-clause-serves : goal.returns-in_err-queue-clause-serves
returns-in_err-queue-clause-serves g c =
    let q = err_from_is_err_and c.from_residual.result c.from_residual.ensures.1 in
    let gives = g.S.Calls.gives c.args.service.now in
    let unread = g.I.Read.remaining c.args.ends.now.reader.now in
    let before = g.O.Write.contents c.args.ends.now.writer.now in
    let w = world c.args.pass.now c.args.clock.now in
    rw (q.1, q.2) (ends_here gives g.C.Clock.ticks unread before w unread before [] w (nothing_came gives g.C.Clock.ticks unread before w) (Err Memory) (refl, inl (inl refl, (refl, refl))))

pub loop-turn-init : goal.loop-turn-init
loop-turn-init g c =
    let is = c.new-connection.ensures in
    let gives = g.S.Calls.gives c.args.service.now in
    let unread = g.I.Read.remaining c.args.ends.now.reader.now in
    let before = g.O.Write.contents c.args.ends.now.writer.now in
    let w = world c.args.pass.now c.args.clock.now in
    record {
      same = record { reader = refl; writer = refl };
      ready = c.requires.pass;
      empty = c.in_ok-queue.ensures.items;
      room = c.in_ok-queue.ensures.capacity;
      said = ap (λ (u : Unended). u.text) is;
      goes_on = ap (λ (u : Unended). u.closes) is;
      answers = ap (λ (u : Unended). u.unanswered) is;
      unbegun = λ some. inl (ap (λ (u : Unended). u.came) is);
      went = subst (λ l. Went gives g.C.Clock.ticks unread before w unread before l w) (sym (ap (λ (u : Unended). u.came) is)) (nothing_came gives g.C.Clock.ticks unread before w);
    }

pub read_on-requires : goal.read_on-requires
read_on-requires g c = record { unbegun = c.loop-turn.invariant.unbegun }

pub returns-in_err-served-clause-pass : goal.returns-in_err-served-clause-pass
returns-in_err-served-clause-pass g c = c.loop-turn.invariant.ready

pub returns-in_err-served-clause-same : goal.returns-in_err-served-clause-same
returns-in_err-served-clause-same g c = same_ends c.args.ends.now c.loop-turn.ends c.read_on.new.self c.loop-turn.invariant.same c.read_on.ensures.same

pub returns-in_err-served-clause-serves : goal.returns-in_err-served-clause-serves
returns-in_err-served-clause-serves g c =
    let q = err_from_is_err_and c.from_residual-in_err-served.result c.from_residual-in_err-served.ensures.1 in
    let gives = g.S.Calls.gives c.args.service.now in
    let ticks = g.C.Clock.ticks in
    let unread = g.I.Read.remaining c.args.ends.now.reader.now in
    let before = g.O.Write.contents c.args.ends.now.writer.now in
    let start = world c.args.pass.now c.args.clock.now in
    let inv = c.loop-turn.invariant in
    let w = world c.loop-turn.pass c.loop-turn.clock in
    let mid = c.read_on.new.self in
    let came = c.read_on.new.connection in
    let left = g.I.Read.remaining mid.reader.now in
    let written = g.O.Write.contents mid.writer.now in
    let p = read_more gives ticks unread before start (g.I.Read.remaining c.loop-turn.ends.reader.now) (g.O.Write.contents c.loop-turn.ends.writer.now) c.loop-turn.connection.came w inv.went left written left came.came c.read_on.ensures.grows (ap g.O.Write.contents c.read_on.ensures.writer) refl in
    let fault = c.in_err-served.field-0.0 in
    rw (q.1, q.2) (ends_here gives ticks unread before start left written came.came w p (Err fault) (read_failed gives ticks came.came left w fault c.in_err-served.ensures.reads))

pub returns-in-Some-2-clause-serves : goal.returns-in-Some-2-clause-serves
returns-in-Some-2-clause-serves g c =
    let gives = g.S.Calls.gives c.args.service.now in
    let ticks = g.C.Clock.ticks in
    let unread = g.I.Read.remaining c.args.ends.now.reader.now in
    let before = g.O.Write.contents c.args.ends.now.writer.now in
    let start = world c.args.pass.now c.args.clock.now in
    let inv = c.loop-turn.invariant in
    let w = world c.loop-turn.pass c.loop-turn.clock in
    let mid = c.read_on.new.self in
    let came = c.read_on.new.connection in
    let left = g.I.Read.remaining mid.reader.now in
    let written = g.O.Write.contents mid.writer.now in
    let p = read_more gives ticks unread before start (g.I.Read.remaining c.loop-turn.ends.reader.now) (g.O.Write.contents c.loop-turn.ends.writer.now) c.loop-turn.connection.came w inv.went left written left came.came c.read_on.ensures.grows (ap g.O.Write.contents c.read_on.ensures.writer) refl in
    let reads = subst (λ o. IsReadOn came.came left (Ok o)) c.in-Some-2.is c.in_ok-served.ensures.reads in
    ends_here gives ticks unread before start left written came.came w p (Ok c.in-Some-2.served) (read_ended gives ticks came.came left w c.in-Some-2.served reads)

pub returns-in_err-send-clause-same : goal.returns-in_err-send-clause-same
returns-in_err-send-clause-same g c =
    same_ends c.args.ends.now c.read_on.new.self c.send.new.self (same_ends c.args.ends.now c.loop-turn.ends c.read_on.new.self c.loop-turn.invariant.same c.read_on.ensures.same) c.send.ensures.same

pub returns-in_err-send-clause-serves : goal.returns-in_err-send-clause-serves
returns-in_err-send-clause-serves g c =
    let q = err_from_is_err_and c.from_residual-in_err-send.result c.from_residual-in_err-send.ensures.1 in
    let gives = g.S.Calls.gives c.args.service.now in
    let ticks = g.C.Clock.ticks in
    let unread = g.I.Read.remaining c.args.ends.now.reader.now in
    let before = g.O.Write.contents c.args.ends.now.writer.now in
    let start = world c.args.pass.now c.args.clock.now in
    let inv = c.loop-turn.invariant in
    let w = world c.loop-turn.pass c.loop-turn.clock in
    let mid = c.read_on.new.self in
    let came = c.read_on.new.connection in
    let left = g.I.Read.remaining mid.reader.now in
    let written = g.O.Write.contents mid.writer.now in
    let end = c.send.new.self in
    let last = g.I.Read.remaining end.reader.now in
    let after = g.O.Write.contents end.writer.now in
    let visit = c.visit_alone-connection in
    let new = visit.result in
    let w' = world visit.new.pass visit.new.clock in
    let said = c.read_on.ensures.kept.0 ∙ inv.said in
    let p = read_more gives ticks unread before start (g.I.Read.remaining c.loop-turn.ends.reader.now) (g.O.Write.contents c.loop-turn.ends.writer.now) c.loop-turn.connection.came w inv.went left written last came.came c.read_on.ensures.grows (ap g.O.Write.contents c.read_on.ensures.writer) (ap g.I.Read.remaining c.send.ensures.reader) in
    let failed = c.in_err-send.ensures in
    rw (q.1, q.2) (unwritten gives ticks unread before start last written w w' came new p visit.ensures.turned said after c.in_err-send.field-0.0 failed.some.0 failed.some.1 failed.writes)

pub returns-then-unanswered-clause-serves : goal.returns-then-unanswered-clause-serves
returns-then-unanswered-clause-serves g c =
    let gives = g.S.Calls.gives c.args.service.now in
    let ticks = g.C.Clock.ticks in
    let unread = g.I.Read.remaining c.args.ends.now.reader.now in
    let before = g.O.Write.contents c.args.ends.now.writer.now in
    let start = world c.args.pass.now c.args.clock.now in
    let inv = c.loop-turn.invariant in
    let w = world c.loop-turn.pass c.loop-turn.clock in
    let mid = c.read_on.new.self in
    let came = c.read_on.new.connection in
    let left = g.I.Read.remaining mid.reader.now in
    let written = g.O.Write.contents mid.writer.now in
    let end = c.send.new.self in
    let last = g.I.Read.remaining end.reader.now in
    let after = g.O.Write.contents end.writer.now in
    let visit = c.visit_alone-connection in
    let new = visit.result in
    let w' = world visit.new.pass visit.new.clock in
    let said = c.read_on.ensures.kept.0 ∙ inv.said in
    let p = read_more gives ticks unread before start (g.I.Read.remaining c.loop-turn.ends.reader.now) (g.O.Write.contents c.loop-turn.ends.writer.now) c.loop-turn.connection.came w inv.went left written last came.came c.read_on.ensures.grows (ap g.O.Write.contents c.read_on.ensures.writer) (ap g.I.Read.remaining c.send.ensures.reader) in
    let sent = c.in_ok-send.ensures.sent in
    visited_down gives ticks unread before start last written w w' came new p visit.ensures.turned said after _ c.in_ok-send.ensures.writes (c.read_on.ensures.kept.2 ∙ inv.answers) (sym (ap (λ (u : Unended). u.unanswered) sent) ∙ sym c.unanswered.ensures ∙ c.if-unanswered.true)

pub returns-then-closes-clause-serves : goal.returns-then-closes-clause-serves
returns-then-closes-clause-serves g c =
    let gives = g.S.Calls.gives c.args.service.now in
    let ticks = g.C.Clock.ticks in
    let unread = g.I.Read.remaining c.args.ends.now.reader.now in
    let before = g.O.Write.contents c.args.ends.now.writer.now in
    let start = world c.args.pass.now c.args.clock.now in
    let inv = c.loop-turn.invariant in
    let w = world c.loop-turn.pass c.loop-turn.clock in
    let mid = c.read_on.new.self in
    let came = c.read_on.new.connection in
    let left = g.I.Read.remaining mid.reader.now in
    let written = g.O.Write.contents mid.writer.now in
    let end = c.send.new.self in
    let last = g.I.Read.remaining end.reader.now in
    let after = g.O.Write.contents end.writer.now in
    let visit = c.visit_alone-connection in
    let new = visit.result in
    let w' = world visit.new.pass visit.new.clock in
    let said = c.read_on.ensures.kept.0 ∙ inv.said in
    let p = read_more gives ticks unread before start (g.I.Read.remaining c.loop-turn.ends.reader.now) (g.O.Write.contents c.loop-turn.ends.writer.now) c.loop-turn.connection.came w inv.went left written last came.came c.read_on.ensures.grows (ap g.O.Write.contents c.read_on.ensures.writer) (ap g.I.Read.remaining c.send.ensures.reader) in
    let sent = c.in_ok-send.ensures.sent in
    visited_over gives ticks unread before start last written w w' came new p visit.ensures.turned said after _ c.in_ok-send.ensures.writes (c.read_on.ensures.kept.1 ∙ inv.goes_on) (sym (ap (λ (u : Unended). u.closes) sent) ∙ sym c.closes.ensures ∙ c.if-closes.true) (sym (ap (λ (u : Unended). u.unanswered) sent) ∙ sym c.unanswered.ensures ∙ c.if-unanswered.false)

pub loop-turn-preserved : goal.loop-turn-preserved
loop-turn-preserved g c =
    let gives = g.S.Calls.gives c.args.service.now in
    let ticks = g.C.Clock.ticks in
    let unread = g.I.Read.remaining c.args.ends.now.reader.now in
    let before = g.O.Write.contents c.args.ends.now.writer.now in
    let start = world c.args.pass.now c.args.clock.now in
    let inv = c.loop-turn.invariant in
    let w = world c.loop-turn.pass c.loop-turn.clock in
    let mid = c.read_on.new.self in
    let came = c.read_on.new.connection in
    let left = g.I.Read.remaining mid.reader.now in
    let written = g.O.Write.contents mid.writer.now in
    let end = c.send.new.self in
    let last = g.I.Read.remaining end.reader.now in
    let after = g.O.Write.contents end.writer.now in
    let visit = c.visit_alone-connection in
    let new = visit.result in
    let w' = world visit.new.pass visit.new.clock in
    let said = c.read_on.ensures.kept.0 ∙ inv.said in
    let p = read_more gives ticks unread before start (g.I.Read.remaining c.loop-turn.ends.reader.now) (g.O.Write.contents c.loop-turn.ends.writer.now) c.loop-turn.connection.came w inv.went left written last came.came c.read_on.ensures.grows (ap g.O.Write.contents c.read_on.ensures.writer) (ap g.I.Read.remaining c.send.ensures.reader) in
    let sent = c.in_ok-send.ensures.sent in
    let stays = sym (ap (λ (u : Unended). u.closes) sent) ∙ sym c.closes.ensures ∙ c.if-closes.false in
    let (went, unbegun) = visited_on gives ticks unread before start last written w w' came new p visit.ensures.turned said after _ c.in_ok-send.ensures.writes stays in
    let kept = ap (λ (u : Unended). u.came) sent in
    record {
      same = same_ends c.args.ends.now mid end (same_ends c.args.ends.now c.loop-turn.ends mid inv.same c.read_on.ensures.same) c.send.ensures.same;
      ready = visit.ensures.pass;
      empty = visit.ensures.empty;
      room = omega (arith, visit.ensures.room, inv.room);
      said = ap (λ (u : Unended). u.text) sent;
      goes_on = sym c.closes.ensures ∙ c.if-closes.false;
      answers = sym c.unanswered.ensures ∙ c.if-unanswered.false;
      unbegun = λ some. subst IsUnbegun (sym kept) (unbegun (subst (λ n. 0 < n) (ap (λ (u : Unended). u.room) sent) some));
      went = subst (λ l. Went gives ticks unread before start last after l w') (sym kept) went;
    }
