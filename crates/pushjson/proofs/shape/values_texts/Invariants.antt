use Rattle.std.proofs.Common.{◌≡◌, ◌++◌, map}
use Rattle.std.specs.Vec.Iter.{into_iter_items}
use Rattle.serde_json.specs.Data.{array}
use Rattle.serde_json.specs.View.{view, items_of}
use Rattle.pushjson.specs.Bodies.{value_tree}
use Rattle.pushjson.specs.Shape.{value_texts_of}
use Rattle.pushjson.proofs.shape.values_texts.Given as goal

abbrev pub invariant-loop-item : goal.invariant-loop-item
invariant-loop-item l = view l.fn.value ≡ array (items_of (map value_tree (map value_texts_of l.values.items) ++ map view (into_iter_items l.item-iterator)))
