use Rattle.std.proofs.Common.{◌≡◌, map, vec_len, take, drop}
use Rattle.std.specs.Vec.Iter.{into_iter_items}
use Rattle.pushjson.specs.Bodies.{AreTimed, entry_of_line}
use Rattle.pushjson.specs.Shape.{value_texts_of}
use Rattle.pushjson.proofs.push.entries_of.Given as goal

abbrev pub invariant-loop-time : goal.invariant-loop-time
invariant-loop-time l = let values = map value_texts_of l.fn.values.items in let n = vec_len l.entries in record {
  read : l.entries.items ≡ map entry_of_line (take n values);
  times : AreTimed (take n values);
  left : drop n values ≡ map value_texts_of (into_iter_items l.time-iterator);
}
