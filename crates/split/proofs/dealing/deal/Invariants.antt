use Rattle.std.proofs.Common.{◌≡◌, false}
use Rattle.std.specs.Prelude.{vec_len}
use Rattle.std.specs.List.{fold}
use Rattle.std.specs.List.Sorted.{IsStrictlySortedBy}
use Rattle.std.specs.Map.{keys_of}
use Rattle.labels.specs.Keys.{key_cmp}
use Rattle.accept.specs.StreamMaps.{images_of, AllHoldBut}
use Rattle.split.specs.Maps.{put_in_map, dealt}
use Rattle.split.proofs.dealing.deal.Given as goal

abbrev pub invariant-loop-key : goal.invariant-loop-key
invariant-loop-key l = record {
  len : vec_len l.news ≡ l.count;
  dealt : fold (put_in_map l.count) l.news.items (images_of l.key-iterator) ≡ dealt l.count l.initial.news.items l.fn.old;
  ordered : IsStrictlySortedBy key_cmp (keys_of l.key-iterator);
  hold : AllHoldBut (λ _. false) l.key-iterator;
}
