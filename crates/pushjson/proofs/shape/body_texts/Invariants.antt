use Rattle.std.proofs.Common.{◌≡◌, ◌++◌, map, codes, All}
use Rattle.std.specs.Vec.Iter.{into_iter_items}
use Rattle.serde_json.specs.Data.{array, object, member, no_members}
use Rattle.serde_json.specs.View.{view, items_of}
use Rattle.pushjson.specs.Bodies.{stream_tree, HaveRisingNames}
use Rattle.pushjson.specs.Shape.{stream_texts_of}
use Rattle.pushjson.proofs.shape.body_texts.Given as goal

abbrev pub invariant-loop-item : goal.invariant-loop-item
invariant-loop-item l = record {
  read : view l.fn.value ≡ object (member (codes "streams") (array (items_of (map stream_tree (map stream_texts_of l.streams.items) ++ map view (into_iter_items l.item-iterator)))) no_members);
  sorted : All (λ s. HaveRisingNames s.pairs) (map stream_texts_of l.streams.items);
}
