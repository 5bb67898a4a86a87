-- The canonical text of a label set: `{a="1", b="2"}`, the names in strictly rising byte order.
use Rattle.std.specs.Prelude.{ℕ, ◌≡◌, ◌≤◌, List, [], ◌∷◌, ◌++◌, length, codes, None, ◌==◌, if◌then◌else◌}
use Rattle.std.specs.List.{flat_map, AllByRecursion}
use Rattle.std.specs.List.Sorted.{IsPermutation}
use Rattle.std.specs.Str.{IsUtf8}
use Rattle.pairs.specs.Labels.{Label}
use Rattle.pairs.specs.Names.{NamesRise}
use Rattle.labels.specs.Faults.{max_labels, label_fault}

-- a byte of a value: `\`, `"` and a newline stand after a `\`
abbrev pub escape : ℕ → List ℕ
escape b =
    if b == 92 then 92 ∷ 92 ∷ [] else (if b == 34 then 92 ∷ 34
    ∷ [] else (if b == 10 then 92 ∷ 110 ∷ [] else b ∷ []))

-- `a="1"`
abbrev pub label_text : Label → List ℕ
label_text p = p.0 ++ 61 ∷ 34 ∷ flat_map escape p.1 ++ 34 ∷ []

-- what follows the first label: each further one after a comma and a space, and `}`
abbrev pub tail_text : List Label → List ℕ
tail_text [] = 125 ∷ []
tail_text (p ∷ ps) = 44 ∷ 32 ∷ label_text p ++ tail_text ps

abbrev pub set_text : List Label → List ℕ
set_text [] = codes "{}"
set_text (p ∷ ps) = 123 ∷ label_text p ++ tail_text ps

-- a label without a fault, its value a text
pub record IsLabel (p : Label) : Type 0 where
  pub lawful : label_fault p ≡ None
  pub utf8 : IsUtf8 p.1

-- each value is a text
abbrev pub AreTexts : List Label → Type 0
AreTexts ps = AllByRecursion (λ p. IsUtf8 p.1) ps

-- the text is that of these labels, as they stand
pub record IsCanonical (text : List ℕ) (ps : List Label) : Type 0 where
  pub some : 1 ≤ length ps
  pub few : length ps ≤ max_labels
  pub each : AllByRecursion IsLabel ps
  pub rise : NamesRise ps
  pub printed : text ≡ set_text ps

-- the text is that of some labels
abbrev pub IsCanonicalText : List ℕ → Type 0
IsCanonicalText text = ∥ ((ps : List Label) × IsCanonical text ps) ∥₁

-- the text is that of the given labels, in whatever order they are given
abbrev pub IsTextOf : List ℕ → List Label → Type 0
IsTextOf text pairs = (ps : List Label) × IsPermutation pairs ps × IsCanonical text ps

-- the text is what follows a label of this name, with at most this many labels more
abbrev pub EndsSet : List ℕ → ℕ → List ℕ → Type 0
EndsSet name most text = (qs : List Label) × (length qs ≤ most) × AllByRecursion IsLabel qs
    × NamesRise ((name, []) ∷ qs) × (text ≡ tail_text qs)
