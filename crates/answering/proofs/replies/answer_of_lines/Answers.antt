use Rattle.std.proofs.Common.{[], ◌∷◌}
use Rattle.answering.specs.Calls.{Replied}
use Rattle.answering.proofs.replies.answer_of_lines.Goals as goal

pub returns-clause-shows : goal.returns-clause-shows
returns-clause-shows c = c.into_answer.ensures (Replied c.args.reply.now ∷ []) (c.in_ok-note_reply.ensures.next [] c.new-lines.ensures)
