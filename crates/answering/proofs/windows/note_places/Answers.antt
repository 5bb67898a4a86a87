use Rattle.std.proofs.Common.{◌<◌, ◌+◌, ◌∙◌, drop, length, sym, ap, subst, refl, arith}
use Rattle.std.proofs.lemmas.Result.{err_from_is_err_and}
use Rattle.answering.specs.Calls.{Refused}
use Rattle.answering.specs.Windows.{AreNotedTo, came_of, merged}
use Rattle.answering.proofs.Pushing.{next_refused, next_came, noted_more, noted_no_answer, outcome_at}
use Rattle.answering.proofs.windows.note_places.Goals.{in-Some+in_ok-note_refusal-in-Some, in-None+in-Some-get+in_ok-note_outcome-in-None}
use Rattle.answering.proofs.windows.note_places.Goals as goal

pub returns-in_err-note_outcome-in-None-clause-noted : goal.returns-in_err-note_outcome-in-None-clause-noted
returns-in_err-note_outcome-in-None-clause-noted c before tells whole =
    let places = c.args.places.now in
    let k = c.loop-place.place-index in
    let outcomes = c.args.outcomes.now in
    let n = c.loop-place.next in
    let outcome = c.in-Some-get.outcome.now in
    let all = merged places (drop c.args.first outcomes.items) in
    let p = err_from_is_err_and c.from_residual-in_err-note_outcome-in-None.result c.from_residual-in_err-note_outcome-in-None.ensures.1 in
    let came = next_came places k c.loop-place-test.true _ outcome (drop (n + 1) outcomes.items) c.in-None.is in
    let within : n < length outcomes.items = omega (arith, came.1, c.loop-place.invariant.due, outcomes.ok.0) in
    let at = outcome_at outcomes.items n outcome within c.in-Some-get.ensures.lookup in
    let next = ap (λ l. merged (drop k places) l) at ∙ came.0 in
    let noted = subst (λ l. AreNotedTo before all l c.loop-place.lines) next (c.loop-place.invariant.noted before tells whole) in
    rw (p.1, p.2) (noted_no_answer before all (came_of outcome) (merged (drop (k + 1) places) (drop (n + 1) outcomes.items)) c.loop-place.lines c.note_outcome.new.lines noted c.in_err-note_outcome-in-None.field-0.0 c.in_err-note_outcome-in-None.ensures.noted)

pub loop-place-preserved : goal.loop-place-preserved
loop-place-preserved c =
    let inv = c.loop-place.invariant in
    let places = c.args.places.now in
    let k = c.loop-place.place-index in
    let outcomes = c.args.outcomes.now in
    let n = c.loop-place.next in
    let all = merged places (drop c.args.first outcomes.items) in
    elim c.match-place.branch [
      | in-Some+in_ok-note_refusal-in-Some w ↦
          let next = next_refused places k c.loop-place-test.true _ w.in-Some.fault (drop n outcomes.items) w.in-Some.is in
          rw (w.next-is, w.lines-is) (record {
            due = ap (λ (m : _). n + m) (sym next.1) ∙ inv.due;
            noted = λ before tells whole.
                noted_more before all (Refused w.in-Some.fault) (merged (drop (k + 1) places) (drop n outcomes.items)) c.loop-place.lines w.note_refusal.new.self
                (subst (λ l. AreNotedTo before all l c.loop-place.lines) next.0 (inv.noted before tells whole)) tt (refl, w.in_ok-note_refusal-in-Some.ensures.next);
            count = omega (arith, inv.count, w.note_refusal.ensures.count);
          })
      | in-None+in-Some-get+in_ok-note_outcome-in-None w ↦
          let outcome = w.in-Some-get.outcome.now in
          let came = next_came places k c.loop-place-test.true _ outcome (drop (n + 1) outcomes.items) w.in-None.is in
          let within : n < length outcomes.items = omega (arith, came.1, inv.due, outcomes.ok.0) in
          let next = ap (λ l. merged (drop k places) l) (outcome_at outcomes.items n outcome within w.in-Some-get.ensures.lookup) ∙ came.0 in
          rw (w.next-is, w.lines-is) (record {
            due = omega (arith, came.1, inv.due);
            noted = λ before tells whole.
                noted_more before all (came_of outcome) (merged (drop (k + 1) places) (drop (n + 1) outcomes.items)) c.loop-place.lines w.note_outcome.new.lines
                (subst (λ l. AreNotedTo before all l c.loop-place.lines) next (inv.noted before tells whole)) tt w.in_ok-note_outcome-in-None.ensures.noted;
            count = omega (arith, inv.count, w.in_ok-note_outcome-in-None.ensures.count);
          })
    ]
