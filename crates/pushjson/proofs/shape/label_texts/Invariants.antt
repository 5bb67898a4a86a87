use Rattle.std.proofs.Common.{◌≡◌, map, nat_cmp}
use Rattle.std.specs.Cmp.Lexicographic.{slice_cmp}
use Rattle.std.specs.List.Sorted.{IsStrictlySortedBy}
use Rattle.pairs.specs.Labels.{label_of}
use Rattle.serde_json.specs.Data.{object}
use Rattle.serde_json.specs.View.{view, members_view}
use Rattle.pushjson.proofs.Trees.{labels_then, all_names}
use Rattle.pushjson.proofs.shape.label_texts.Given as goal

abbrev pub invariant-loop-name : goal.invariant-loop-name
invariant-loop-name l = record {
  read : view l.fn.value ≡ object (labels_then (map label_of l.pairs.items) (members_view l.name-iterator));
  sorted : IsStrictlySortedBy (slice_cmp nat_cmp) (all_names (map label_of l.pairs.items) l.name-iterator);
}
