use Rattle.std.proofs.Common.{◌≡◌, map, vec_len, take, drop}
use Rattle.std.specs.Vec.Iter.{into_iter_items}
use Rattle.pushjson.specs.Bodies.{HaveTimes, batch_of}
use Rattle.pushjson.specs.Shape.{stream_texts_of}
use Rattle.pushjson.proofs.push.batches_of.Given as goal

abbrev pub invariant-loop-pairs : goal.invariant-loop-pairs
invariant-loop-pairs l = let streams = map stream_texts_of l.fn.streams.items in let n = vec_len l.batches in record {
  read : l.batches.items ≡ map batch_of (take n streams);
  times : HaveTimes (take n streams);
  left : drop n streams ≡ map stream_texts_of (into_iter_items l.pairs-iterator);
}
