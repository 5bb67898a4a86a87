-- Lists without repeats.
use Rattle.std.proofs.Common.{◌≡◌, ◌≢◌, ◌<◌, ◌⊎◌, ℕ, zero, suc, ◌+◌, List, [], ◌∷◌, ◌++◌, length, get_or, take, ◌↔◌, All, AllPairs, Contains, refl, subst, sym, inl, inr, arith}
use Rattle.std.proofs.lemmas.List.{take_more}
use Rattle.std.proofs.lemmas.List.Elements.{Contains-append_left, Contains-push, Contains-push_cases}

-- x is one of xs
abbrev pub Among : {X : Type 0} → List X → X → Type 0
Among [] x = ⊥
Among (y ∷ ys) x = (y ≡ x) ⊎ Among ys x

-- no one is equal to one after it
abbrev pub Distinct : {X : Type 0} → List X → Type 0
Distinct [] = Unit {0}
Distinct (x ∷ xs) = (Among xs x → ⊥) × Distinct xs

pub among-append_left : {X : Type 0} (xs ys : List X) (x : X) → Among xs x → Among (xs ++ ys) x
among-append_left [] ys x in_xs = absurd in_xs
among-append_left (y ∷ xs) ys x (inl here) = inl here
among-append_left (y ∷ xs) ys x (inr there) = inr (among-append_left xs ys x there)

pub among-append_right : {X : Type 0} (xs ys : List X) (x : X) → Among ys x → Among (xs ++ ys) x
among-append_right [] ys x in_ys = in_ys
among-append_right (y ∷ xs) ys x in_ys = inr (among-append_right xs ys x in_ys)

pub among-append : {X : Type 0} (xs ys : List X) (x : X) → Among (xs ++ ys) x → Among xs x ⊎ Among ys x
among-append [] ys x in_both = inr in_both
among-append (y ∷ xs) ys x (inl here) = inl (inl here)
among-append (y ∷ xs) ys x (inr there) = elim (among-append xs ys x there) [ inl left ↦ inl (inr left) | inr right ↦ inr right ]

pub distinct-append : {X : Type 0} (xs ys : List X) → Distinct xs → Distinct ys → ((x : X) → Among xs x → Among ys x → ⊥) → Distinct (xs ++ ys)
distinct-append [] ys dx dy apart = dy
distinct-append (x ∷ xs) ys dx dy apart = (
  (λ both. elim (among-append xs ys x both) [ inl left ↦ dx.0 left | inr right ↦ apart x (inl refl) right ]),
  distinct-append xs ys dx.1 dy (λ y in_xs in_ys. apart y (inr in_xs) in_ys),
)

pub among-get_or : {X : Type 0} (xs : List X) (k : ℕ) (d : X) → k < length xs → Among xs (get_or xs k d)
among-get_or [] k d h = absurd (omega arith)
among-get_or (x ∷ xs) zero d h = inl refl
among-get_or (x ∷ xs) (suc k) d h = inr (among-get_or xs k d (omega arith))

pub among-Contains : {X : Type 0} (xs : List X) (x : X) → Contains xs x → Among xs x
among-Contains xs x has = subst (λ y. Among xs y) has.2 (among-get_or xs has.0 x has.1)

pub Contains-among : {X : Type 0} (xs : List X) (x : X) → Among xs x → Contains xs x
Contains-among [] x in_xs = absurd in_xs
Contains-among (y ∷ xs) x (inl here) = (0, omega arith, here)
Contains-among (y ∷ xs) x (inr there) = let has : Contains xs x = Contains-among xs x there in (suc has.0, omega (arith, has.1), has.2)

pub All-among : {X : Type 0} (P : X → Type 0) (xs : List X) → ((x : X) → Among xs x → P x) → All P xs
All-among P xs each = λ k d h. each (get_or xs k d) (among-get_or xs k d h)

apart : {X : Type 0} (xs : List X) → Distinct xs → (i j : ℕ) (d : X) → i < j → j < length xs → get_or xs i d ≡ get_or xs j d → ⊥
apart [] dx i j d less h same = absurd (omega arith)
apart (x ∷ xs) dx i zero d less h same = absurd (omega arith)
apart (x ∷ xs) dx zero (suc j) d less h same = dx.0 (subst (λ y. Among xs y) (sym same) (among-get_or xs j d (omega arith)))
apart (x ∷ xs) dx (suc i) (suc j) d less h same = apart xs dx.1 i j d (omega arith) (omega arith) same

pub AllPairs-distinct : {X : Type 0} (xs : List X) → Distinct xs → AllPairs (λ x y. x ≢ y) xs
AllPairs-distinct xs dx = apart xs dx

pub distinct-AllPairs : {X : Type 0} (xs : List X) → AllPairs (λ x y. x ≢ y) xs → Distinct xs
distinct-AllPairs [] once = tt
distinct-AllPairs (x ∷ xs) once = (
  (λ again. let has : Contains xs x = Contains-among xs x again in once 0 (suc has.0) x (omega arith) (omega (arith, has.1)) (sym has.2)),
  distinct-AllPairs xs (λ i j d less h. once (suc i) (suc j) d (omega arith) (omega arith)),
)

-- What a list of values, each once, is of those that were looked at.
pub record IsUnique (vs found : List ℕ) : Type 0 where
  pub same : (v : ℕ) → (Contains found v) ↔ (Contains vs v)
  pub once : AllPairs (λ x y. x ≢ y) found

-- one value more, if it isn't among them
pub unique-add : (vs found found' : List ℕ) (i : ℕ) → i < length vs → IsUnique (take i vs) found
    → ((v : ℕ) → (Contains found' v) ↔ ((Contains found v) ⊎ (get_or vs i 0 ≡ v)))
    → (AllPairs (λ x y. x ≢ y) found → AllPairs (λ x y. x ≢ y) found') → IsUnique (take (i + 1) vs) found'
unique-add vs found found' i h old more once = rw (take_more vs i 0 h) (record {
  same = λ v. (
    (λ has. elim ((more v).0 has) [
      | inl before ↦ Contains-append_left (take i vs) (get_or vs i 0 ∷ []) v ((old.same v).0 before)
      | inr last ↦ subst (λ (x : ℕ). Contains (take i vs ++ get_or vs i 0 ∷ []) x) last (Contains-push (take i vs) (get_or vs i 0))
    ]),
    (λ has. elim (Contains-push_cases (take i vs) (get_or vs i 0) v has) [
      | inl before ↦ (more v).1 (inl ((old.same v).1 before))
      | inr last ↦ (more v).1 (inr last)
    ]),
  );
  once = once old.once;
})
