use Rattle.std.proofs.Common.{ap, refl, ◌∙◌}
use Rattle.answering.specs.Calls.{Replied}
use Rattle.answering.specs.Lines.{worse_of}
use Rattle.answering.proofs.Noting.{noted, on_ok}
use Rattle.answering.proofs.lines.PushLines.note_reply.Goals as goal

pub returns-clause-next : goal.returns-clause-next
returns-clause-next c =
    let old = c.args.self.now in
    on_ok c.push_reply.result _ _ (λ text cames tells. noted cames (Replied c.args.reply.now) old _ tells refl text (c.worse_of-self.ensures ∙ ap (worse_of old.status) c.status_of_reply.ensures)) c.push_reply.ensures.text
