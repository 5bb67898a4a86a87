-- The fields of a name among those that a loop has seen.
use Rattle.std.proofs.Common.{◌≡◌, ℕ, ◌+◌, ◌<◌, Bool, true, false, ◌||◌, cond, List, [], ◌∷◌, ◌++◌, length, map, take, drop, get_or, refl, sym, ap, ap₂, ◌∙◌, arith, take-append-drop, append-nil, length-append}
use Rattle.std.proofs.lemmas.List.{map_more, map-append}
use Rattle.std.proofs.lemmas.List.Folds.{list_any-append}
use Rattle.std.specs.List.{list_any}
use Rattle.requests.specs.Fields.{Field, is_same_word, values_of}

or_true : (b : Bool) → (b || true) ≡ true
or_true true = refl
or_true false = refl

or_first : (b c : Bool) → b ≡ true → (b || c) ≡ true
or_first b c same = ap (λ t. t || c) same

pub values_of-append : (name : List ℕ) (fs gs : List Field) → values_of name (fs ++ gs) ≡ values_of name fs ++ values_of name gs
values_of-append name [] gs = refl
values_of-append name (f ∷ fs) gs = by (is_same_word f.0 name) (values_of-append name fs gs)
  where
    by : (t : Bool) → values_of name (fs ++ gs) ≡ values_of name fs ++ values_of name gs
        → cond t (f.1 ∷ values_of name (fs ++ gs)) (values_of name (fs ++ gs)) ≡ cond t (f.1 ∷ values_of name fs) (values_of name fs) ++ values_of name gs
    by true e = ap (λ l. f.1 ∷ l) e
    by false e = e

module _ {X : Type 0} (of : X → Field) (name : List ℕ) (xs : List X) (i : ℕ) (d : X) (inside : i < length xs) where
  -- the values so far and the one of this element, if it has the name
  pub values_more : values_of name (map of (take (i + 1) xs)) ≡ values_of name (map of (take i xs)) ++ values_of name (of (get_or xs i d) ∷ [])
  values_more = ap (values_of name) (map_more of xs i d inside) ∙ values_of-append name (map of (take i xs)) (of (get_or xs i d) ∷ [])

  pub values_same : is_same_word (of (get_or xs i d)).0 name ≡ true → values_of name (map of (take (i + 1) xs)) ≡ values_of name (map of (take i xs)) ++ (of (get_or xs i d)).1 ∷ []
  values_same same = values_more ∙ ap (λ t. values_of name (map of (take i xs)) ++ cond t ((of (get_or xs i d)).1 ∷ []) []) same

  pub values_first : values_of name (map of (take i xs)) ≡ [] → is_same_word (of (get_or xs i d)).0 name ≡ true → values_of name (map of (take (i + 1) xs)) ≡ (of (get_or xs i d)).1 ∷ []
  values_first none same = values_same same ∙ ap (λ l. l ++ (of (get_or xs i d)).1 ∷ []) none

  pub values_other : is_same_word (of (get_or xs i d)).0 name ≡ false → values_of name (map of (take (i + 1) xs)) ≡ values_of name (map of (take i xs))
  values_other other = values_more ∙ ap (λ t. values_of name (map of (take i xs)) ++ cond t ((of (get_or xs i d)).1 ∷ []) []) other ∙ append-nil _

  -- a further one
  pub values_many : 0 < length (values_of name (map of (take i xs))) → is_same_word (of (get_or xs i d)).0 name ≡ true → 1 < length (values_of name (map of xs))
  values_many some same =
      let front = values_of name (map of (take i xs)) in
      let split = ap (λ l. values_of name (map of l)) (sym (take-append-drop (i + 1) xs)) ∙ ap (values_of name) (map-append of (take (i + 1) xs) (drop (i + 1) xs)) ∙ values_of-append name _ _ in
      let all = split ∙ ap (λ l. l ++ values_of name (map of (drop (i + 1) xs))) (values_same same) in
      rw all (omega (arith, length-append (front ++ (of (get_or xs i d)).1 ∷ []) (values_of name (map of (drop (i + 1) xs))), length-append front ((of (get_or xs i d)).1 ∷ [])))

  -- the test holds of this element
  pub any_here : (p : Field → Bool) → p (of (get_or xs i d)) ≡ true → list_any p (map of xs) ≡ true
  any_here p same =
      let split = ap (λ l. list_any p (map of l)) (sym (take-append-drop (i + 1) xs)) ∙ ap (list_any p) (map-append of (take (i + 1) xs) (drop (i + 1) xs)) ∙ list_any-append p _ _ in
      let seen = ap (list_any p) (map_more of xs i d inside) ∙ list_any-append p (map of (take i xs)) (of (get_or xs i d) ∷ []) in
      let here : list_any p (of (get_or xs i d) ∷ []) ≡ true = or_first _ _ same in
      split ∙ or_first _ _ (seen ∙ ap (λ t. list_any p (map of (take i xs)) || t) here ∙ or_true _)

  -- the test holds of none so far, nor of this one
  pub any_other : (p : Field → Bool) → list_any p (map of (take i xs)) ≡ false → p (of (get_or xs i d)) ≡ false → list_any p (map of (take (i + 1) xs)) ≡ false
  any_other p none other =
      ap (list_any p) (map_more of xs i d inside) ∙ list_any-append p (map of (take i xs)) (of (get_or xs i d) ∷ []) ∙ ap₂ ◌||◌ none (ap (λ t. t || false) other)
