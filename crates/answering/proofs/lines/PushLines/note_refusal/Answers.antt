use Rattle.std.proofs.Common.{◌≢◌, ℕ, List, [], ◌++◌, OnErr, ap, subst, refl, ◌∙◌}
use Rattle.answering.specs.Calls.{Refused}
use Rattle.answering.specs.Lines.{stream_line}
use Rattle.answering.proofs.Noting.{noted, on_ok}
use Rattle.answering.proofs.lines.PushLines.note_refusal.Goals as goal

pub returns-clause-next : goal.returns-clause-next
returns-clause-next c =
    let old = c.args.self.now in
    on_ok c.push_stream_line.result _ _ (λ text cames tells. noted cames (Refused c.args.fault) old _ tells refl (text ∙ ap (λ w. old.text.items ++ stream_line old.streams w) (c.as_bytes.ensures.value ∙ c.words.ensures)) c.worse_of-self.ensures) c.push_stream_line.ensures.text

pub returns-clause-said : goal.returns-clause-said
returns-clause-said c =
    let P : List ℕ → Type 0 = λ w. OnErr c.push_stream_line.result (stream_line c.args.self.now.streams w ≢ []) in
    subst P (c.as_bytes.ensures.value ∙ c.words.ensures) c.push_stream_line.ensures.said
