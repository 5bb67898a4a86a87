use Rattle.std.proofs.Common.{Some, ap, ◌∙◌, refl}
use Rattle.pushjson.specs.Shape.{trim_texts_of}
use Rattle.pushjson.proofs.query.read_trim.Goals as goal

pub returns-in_default-clause-reads : goal.returns-in_default-clause-reads
returns-in_default-clause-reads c =
    let (few, json) = c.in_ok-read_tree.ensures in
    (few, (trim_texts_of c.in_ok-texts.texts, (json.0, json.1 ∙ ap Some c.in_ok-texts.ensures.tree), (λ time. c.in_default.ensures (rw c.as_str.ensures.value time)), refl, refl))

pub returns-clause-reads : goal.returns-clause-reads
returns-clause-reads c =
    let (few, json) = c.in_ok-read_tree.ensures in
    (few, (trim_texts_of c.in_ok-texts.texts, (json.0, json.1 ∙ ap Some c.in_ok-texts.ensures.tree), rw (← c.as_str.ensures.value) c.in-Some.ensures.0, rw (c.new-pairs.ensures, c.in-Some.ensures.1, c.as_str.ensures.value) refl))
