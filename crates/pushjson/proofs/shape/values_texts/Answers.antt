use Rattle.std.proofs.Common.{ap, ◌∙◌, ◌++◌, map}
use Rattle.std.proofs.lemmas.Result.{err_from_is_err_and}
use Rattle.std.specs.Vec.Iter.{into_iter_items}
use Rattle.serde_json.specs.Data.{array}
use Rattle.serde_json.specs.View.{view, items_of}
use Rattle.pushjson.specs.Bodies.{value_tree}
use Rattle.pushjson.specs.Shape.{value_texts_of}
use Rattle.pushjson.proofs.Trees.{item_fault}
use Rattle.pushjson.proofs.shape.values_texts.Goals as goal

pub returns-in_err-value_texts : goal.returns-in_err-value_texts
returns-in_err-value_texts c =
    let p = err_from_is_err_and c.from_residual-in_err-value_texts.result c.from_residual-in_err-value_texts.ensures.1 in
    rw (p.1, p.2) (item_fault value_tree array (map value_texts_of c.loop-item.values.items) (view c.in-Some.item) _ (map view (into_iter_items c.next.new.self)) _ (λ is js e. cc) (c.loop-item.invariant ∙ ap (λ vs. array (items_of (map value_tree (map value_texts_of c.loop-item.values.items) ++ map view vs))) c.in-Some.ensures.steps.0) c.in_err-value_texts.ensures)
