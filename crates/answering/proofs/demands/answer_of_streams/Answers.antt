use Rattle.std.proofs.Common.{[], drop, refl}
use Rattle.std.proofs.lemmas.Result.{err_from_is_err_and}
use Rattle.answering.specs.Windows.{merged}
use Rattle.answering.proofs.demands.answer_of_streams.Goals as goal

pub returns-in_err-note_streams : goal.returns-in_err-note_streams
returns-in_err-note_streams c =
    let p = err_from_is_err_and c.from_residual.result c.from_residual.ensures.1 in
    rw (p.1, p.2) (c.in_err-note_streams.ensures.noted [] c.new-lines.ensures refl)

pub returns : goal.returns
returns c =
    let (none, tells) = c.in_ok-note_streams.ensures.noted [] c.new-lines.ensures refl in
    (none, c.into_answer.ensures (merged c.args.places.now (drop c.args.first c.args.outcomes.now.items)) tells)
