use Rattle.std.proofs.Common.{◌≡◌, [], Ok, Some, ap, ◌∙◌, subst, append-nil, arith}
use Rattle.requests.specs.Streams.{MayStand}
use Rattle.answering.specs.Beginning.{IsTurnBegun}
use Rattle.answering.specs.Connections.{Unended}
use Rattle.answering.specs.Turns.{IsLeftByTurn}
use Rattle.answering.proofs.Beginning.{ends_so, goes_on_so, lacks_answer, lacks_so}
use Rattle.answering.proofs.connection.Connection.begin.Goals.{in-Ok-Over, in-Err, in-Some, in-None}
use Rattle.answering.proofs.connection.Connection.begin.Goals as goal

pub returns-clause-over : goal.returns-clause-over
returns-clause-over g c =
    let old = c.args.self.now in
    let new = c.match-settle.self in
    let rest = c.begin_turn.new.incoming in
    let turn = c.match-begin_turn.turn in
    let before = Some c.self.inside.outbox in
    let after = Some c.begin_turn.new.outbox in
    let came = c.self.inside.incoming in
    let text : new.text ≡ c.begin_turn.new.outbox = elim c.match-settle.branch [
      | in-Some w ↦ ap (λ (u : Unended). u.text) w.self-is
      | in-None w ↦ ap (λ (u : Unended). u.text) w.self-is
    ] in
    let left : IsLeftByTurn turn rest old new = elim c.match-settle.branch [
      | in-Some w ↦
          goes_on_so turn rest c.settle.new.incoming c.settle.result w.in-Some.room old new c.settle.ensures.settled w.in-Some.is (ap (λ (u : Unended). u.came) w.self-is) (ap (λ (u : Unended). u.room) w.self-is)
          (ap (λ (u : Unended). u.closes) w.self-is ∙ ap (λ (u : Unended). u.closes) c.self.view_is) (ap (λ (u : Unended). u.unanswered) w.self-is ∙ ap (λ (u : Unended). u.unanswered) c.self.view_is)
      | in-None w ↦
          ends_so turn rest c.settle.new.incoming c.settle.result old new c.settle.ensures.settled w.in-None.is (ap (λ (u : Unended). u.came) w.self-is) (ap (λ (u : Unended). u.room) w.self-is) (ap (λ (u : Unended). u.closes) w.self-is)
          (lacks_so turn c.is_err-failed.result c.self.inside.unanswered new.unanswered c.is_err-failed.ensures.value (ap (λ (u : Unended). u.unanswered) w.self-is) ∙ ap (λ (u : Unended). lacks_answer turn u.unanswered) c.self.view_is)
    ] in
    record {
      turn = turn;
      rest = rest;
      is = elim c.match-begin_turn.branch [
        | in-Ok-Over w ↦ rw (← c.self.view_is, text, w.turn-is) (subst (λ b. IsTurnBegun g.C.Clock.ticks before after came c.args.clock.now rest c.begin_turn.new.clock (Ok b)) w.in-Ok-Over.field-0-is w.in-Ok-Over.ensures.begins)
        | in-Err w ↦ rw (← c.self.view_is, text, w.turn-is) w.in-Err.ensures.begins
      ];
      left = left;
      room = elim c.match-begin_turn.branch [
        | in-Ok-Over w ↦ rw w.turn-is tt
        | in-Err w ↦ rw (w.turn-is, ← c.self.view_is) w.in-Err.ensures.text
      ];
    }

pub begin_turn-requires : goal.begin_turn-requires
begin_turn-requires g c = record { unread = subst MayStand (append-nil c.self.inside.incoming) (c.self.invariant [] (omega arith)) }
