-- Names that rise, and names that stand twice.
use Rattle.std.specs.Prelude.{ℕ, ◌≡◌, List, [], ◌∷◌, Bool, ⊤, nat_lt}
use Rattle.std.specs.List.{list_any, count_by}
use Rattle.std.specs.Str.{bytes_eq}
use Rattle.std.specs.Cmp.Lexicographic.{slice_cmp}
use Rattle.std.specs.Ordering.{nat_cmp}
use Rattle.std.specs.declared.cmp.Ordering.TheVariants.{Less}
use Rattle.pairs.specs.Labels.{Label}

-- each name is below the next
abbrev pub NamesRise : List Label → Type 0
NamesRise [] = ⊤
NamesRise (p ∷ []) = ⊤
NamesRise (p ∷ q ∷ qs) = (slice_cmp nat_cmp p.0 q.0 ≡ Less) × NamesRise (q ∷ qs)

-- how many of the pairs have this name
abbrev pub times_named : List ℕ → List Label → ℕ
times_named name ps = count_by (λ q. bytes_eq name q.0) ps

-- whether a name stands twice
abbrev pub repeats_name : List Label → Bool
repeats_name ps = list_any (λ p. nat_lt 1 (times_named p.0 ps)) ps
