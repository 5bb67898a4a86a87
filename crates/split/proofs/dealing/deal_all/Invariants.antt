use Rattle.std.proofs.Common.{◌≡◌, length, replicate}
use Rattle.std.specs.Prelude.{vec_len}
use Rattle.std.specs.Vec.Iter.{into_iter_items, into_iter_len}
use Rattle.std.specs.FinMap as finite
use Rattle.split.specs.Maps.{all_dealt}
use Rattle.split.proofs.dealing.deal_all.Given as goal

abbrev pub invariant-loop-old : goal.invariant-loop-old
invariant-loop-old l = record {
  len : vec_len l.news ≡ l.count;
  left : into_iter_len l.old-iterator ≡ length (into_iter_items l.old-iterator);
  dealt : all_dealt l.count l.news.items (into_iter_items l.old-iterator) ≡ all_dealt l.count (replicate l.count finite.empty) l.fn.olds.items;
}
