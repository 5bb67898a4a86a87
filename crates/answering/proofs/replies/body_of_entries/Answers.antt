use Rattle.std.proofs.Common.{◌++◌, ap₂, ◌∙◌}
use Rattle.json.specs.Tree.{json_tokens}
use Rattle.serde_json.specs.Written.{outline}
use Rattle.answering.specs.Replies.{read_tree}
use Rattle.answering.proofs.Writing.{whole}
use Rattle.answering.proofs.replies.body_of_entries.Goals as goal

pub returns : goal.returns
returns c =
    c.into_inner.ensures.items
    ∙ whole c.args.entries _ _ (c.write_read.ensures.before ∙ c.new-out.ensures.before ∙ c.in_ok-with_capacity.ensures.items)
    (c.in_ok-write_read.ensures.tokens ∙ ap₂ (λ t es. t ++ json_tokens (outline (read_tree es))) c.new-out.ensures.tokens c.into_vec-entries.ensures)
