-- What each of a list's values meets, by its number.
use Rattle.std.specs.Prelude.{ℕ, ◌+◌, List, [], ◌∷◌}

-- from the number n on
abbrev pub AreEach : {A : Type 0} → (ℕ → A → Type 0) → ℕ → List A → Type 0
AreEach meets n [] = Unit {0}
AreEach meets n (x ∷ xs) = meets n x × AreEach meets (n + 1) xs
