-- Structured metadata of a line: names with values.
use Rattle.std.specs.Prelude.{ℕ, ◌+◌, nat_lt, nat_le, List, [], length, map, sum_by, Option, None, Some, Bool, ◌&&◌, ◌==◌, String}
use Rattle.std.specs.List.{list_all}
use Rattle.std.specs.declared.alloc.Global.{Global}
use Rattle.std.specs.declared.boxed.Box.{Box}
use Rattle.std.specs.declared.vec.Vec.{Vec}
use Rattle.std.specs.Cmp.{IsEquivalence, on_equiv, and_equiv}
use Rattle.std.specs.Cmp.Lexicographic.{pointwise, lists_equiv, nat_list_eq_equiv}
use Rattle.pairs.specs.Labels.{Label, label_of}

-- the pairs of texts, as contracts see them
abbrev pub pairs_in : Option (Box (Vec (String Global × String Global) Global) Global) → List Label
pairs_in None = []
pairs_in (Some b) = map label_of b.value.items

-- whether this is the same name with the same value
abbrev pub same_pair : Label → Label → Bool
same_pair p q = pointwise ◌==◌ p.0 q.0 && pointwise ◌==◌ p.1 q.1

-- whether these are the same pairs, in the same order
abbrev pub same_pairs : List Label → List Label → Bool
same_pairs = pointwise same_pair

pub same_pairs-equiv : IsEquivalence same_pairs
same_pairs-equiv =
    lists_equiv (and_equiv (on_equiv (λ (p : Label). p.0) nat_list_eq_equiv)
    (on_equiv (λ (p : Label). p.1) nat_list_eq_equiv))

-- the bytes of a pair in a log: its texts, each after its length in two bytes
abbrev pub pair_room : Label → ℕ
pair_room p = 4 + length p.0 + length p.1

-- the bytes of the pairs in a log
abbrev pub meta_room : List Label → ℕ
meta_room ps = sum_by pair_room ps

-- the most pairs of a line's metadata, and the most bytes of a pair's name and of its value
abbrev pub max_pairs : ℕ
max_pairs = 16

abbrev pub max_meta_name : ℕ
max_meta_name = 256

abbrev pub max_meta_value : ℕ
max_meta_value = 1024

-- a name that is not empty, with a value, neither of them too long
abbrev pub is_short_pair : Label → Bool
is_short_pair p = nat_lt 0 (length p.0) && nat_le (length p.0) max_meta_name
    && nat_le (length p.1) max_meta_value

-- metadata that a line may have: such pairs, and not too many
abbrev pub is_short_meta : List Label → Bool
is_short_meta ps = nat_le (length ps) max_pairs && list_all is_short_pair ps
