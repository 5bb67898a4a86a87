use Rattle.std.proofs.Common.{◌≢◌, ℕ, [], get_or, subst, ◌∙◌, sym, zero-add}
use Rattle.std.proofs.lemmas.Result.{err_from_is_err_and}
use Rattle.accept.specs.declared.outcome.Outcome.TheVariants.{TooLong}
use Rattle.answering.specs.Lines.{outcome_line}
use Rattle.answering.proofs.Noting.{said_among}
use Rattle.answering.proofs.lines.push_outcomes.Goals as goal

pub returns-in_err-push_outcome-clause-said : goal.returns-in_err-push_outcome-clause-said
returns-in_err-push_outcome-clause-said c =
    let p = err_from_is_err_and c.from_residual.result c.from_residual.ensures.1 in
    let k = c.loop-outcome.outcome-index in
    let os = c.args.outcomes.now in
    let said = subst (λ (n : ℕ). outcome_line c.args.stream n (get_or os k TooLong) ≢ []) (c.loop-outcome.invariant.0 ∙ sym (zero-add k)) c.in_err-push_outcome.ensures.said in
    rw p.1 (said_among c.args.stream 0 k os TooLong c.loop-outcome-test.true said)
