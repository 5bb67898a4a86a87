use Rattle.std.proofs.Common.{ap, ◌∙◌, ◌++◌, map, codes}
use Rattle.std.proofs.lemmas.Result.{err_from_is_err_and}
use Rattle.std.specs.Vec.Iter.{into_iter_items}
use Rattle.serde_json.specs.Data.{array, object, member, no_members}
use Rattle.serde_json.specs.View.{view, items_of}
use Rattle.pushjson.specs.Bodies.{stream_tree}
use Rattle.pushjson.specs.Shape.{stream_texts_of}
use Rattle.pushjson.proofs.Trees.{item_fault}
use Rattle.pushjson.proofs.shape.body_texts.Goals as goal

pub returns-in_err-stream_texts-clause-tree : goal.returns-in_err-stream_texts-clause-tree
returns-in_err-stream_texts-clause-tree c =
    let p = err_from_is_err_and c.from_residual-in_err-stream_texts.result c.from_residual-in_err-stream_texts.ensures.1 in
    rw (p.1, p.2) (item_fault stream_tree (λ is. object (member (codes "streams") (array is) no_members)) (map stream_texts_of c.loop-item.streams.items) (view c.in-Some.item) _ (map view (into_iter_items c.next.new.self)) _ (λ is js e. cc)
    (c.loop-item.invariant.read ∙ ap (λ vs. object (member (codes "streams") (array (items_of (map stream_tree (map stream_texts_of c.loop-item.streams.items) ++ map view vs))) no_members)) c.in-Some.ensures.steps.0) c.in_err-stream_texts.ensures.tree)
