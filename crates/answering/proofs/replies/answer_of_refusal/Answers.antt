use Rattle.std.proofs.Common.{[], ◌∷◌}
use Rattle.answering.specs.Calls.{Refused}
use Rattle.answering.proofs.replies.answer_of_refusal.Goals as goal

pub returns-clause-shows : goal.returns-clause-shows
returns-clause-shows c = c.into_answer.ensures (Refused c.args.fault ∷ []) (c.in_ok-note_refusal.ensures.next [] c.new-lines.ensures)
