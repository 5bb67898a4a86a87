use Rattle.std.proofs.Common.{◌≡◌, ap, ◌∙◌, ◌++◌, ◌∷◌, [], map, string_bytes, arith, refl}
use Rattle.std.proofs.lemmas.Result.{err_from_is_err_and}
use Rattle.std.proofs.lemmas.Grind.{common_steps}
use Rattle.serde_json.proofs.Views.{view-Object}
use Rattle.serde_json.specs.Data.{object}
use Rattle.serde_json.specs.View.{view, members_view}
use Rattle.pairs.specs.Labels.{label_of}
use Rattle.pushjson.proofs.Trees.{labels_then, label_fault, label_more, label_last, rising_keys, rising_more, rising_last}
use Rattle.pushjson.proofs.shape.label_texts.Goals as goal

pub loop-name-init : goal.loop-name-init
loop-name-init c =
    let empty : c.in_ok-pairs.pairs.items ≡ [] = grind (arith, common_steps) in
    let rest = c.into_iter-name-iterator.ensures.into_iter_gives in
    record {
      read = rw (empty, rest.0, c.in-Object.is) (view-Object c.in-Object.members);
      sorted = rw (empty, rest.0) (rising_keys _ rest.5);
    }

pub returns-in_err-text-clause-tree : goal.returns-in_err-text-clause-tree
returns-in_err-text-clause-tree c =
    let p = err_from_is_err_and c.from_residual-in_err-text.result c.from_residual-in_err-text.ensures.1 in
    rw (p.1, p.2) (label_fault (map label_of c.loop-name.pairs.items) (string_bytes c.in-Some.name) (view c.in-Some.value) _ (members_view c.next.new.self) _ (c.loop-name.invariant.read ∙ ap (λ ms. object (labels_then (map label_of c.loop-name.pairs.items) (members_view ms))) c.in-Some.ensures.steps) c.in_err-text.ensures)

pub loop-name-preserved : goal.loop-name-preserved
loop-name-preserved c =
    let pair = label_of (c.in-Some.name, c.in_ok-text.text) in
    let more : map label_of c.push.new.self.items ≡ map label_of c.loop-name.pairs.items ++ pair ∷ [] = grind (arith, common_steps) in
    record {
      read = label_more (map label_of c.loop-name.pairs.items) _ pair (view c.in-Some.value) _ (members_view c.next.new.self) (c.loop-name.invariant.read ∙ ap (λ ms. object (labels_then (map label_of c.loop-name.pairs.items) (members_view ms))) c.in-Some.ensures.steps) c.in_ok-text.ensures more;
      sorted = rising_more _ _ pair _ _ _ c.loop-name.invariant.sorted c.in-Some.ensures.steps more refl;
    }

pub returns-clause-tree : goal.returns-clause-tree
returns-clause-tree c = label_last _ _ (c.loop-name.invariant.read ∙ ap (λ ms. object (labels_then (map label_of c.loop-name.pairs.items) (members_view ms))) c.in-None.ensures.steps.0)

pub returns-clause-sorted : goal.returns-clause-sorted
returns-clause-sorted c = rising_last _ _ c.loop-name.invariant.sorted c.in-None.ensures.steps.0
