-- Lists whose values meet something by their number.
use Rattle.std.proofs.Common.{◌≡◌, ◌≢◌, ℕ, zero, suc, ◌+◌, ◌<◌, ◌≤◌, List, [], ◌∷◌, ◌++◌, length, length-append, get_or, refl, sym, ap, ◌∙◌, subst, ⊎_elim, arith}
use Rattle.std.specs.Prelude.{Some, slice_get, slice_set, slice_index_or}
use Rattle.std.proofs.lemmas.List.{get_or-set_same, get_or-set_other, get_or_append_left, length-set}
use Rattle.std.proofs.lemmas.Option.{slice_get-get_or, slice_get_read, slice_get_within, get_or_from_slice_get}
use Rattle.std.proofs.lemmas.Bool.{cases_eq}
use Rattle.keyed.proofs.Filling.{get_last}
use Rattle.owners.specs.Lists.{AreEach}

module _ {A : Type 0} (meets : ℕ → A → Type 0) where
  -- one value changed
  pub each_set : (n : ℕ) (xs : List A) (at : ℕ) (x : A) → AreEach meets n xs → meets (n + at) x → AreEach meets n (slice_set xs at x)
  each_set n [] at x h is = tt
  each_set n (y ∷ xs) zero x h is = let e : n + zero ≡ n = omega arith in (subst (λ (m : ℕ). meets m x) e is, h.1)
  each_set n (y ∷ xs) (suc at) x h is = let e : n + suc at ≡ (n + 1) + at = omega arith in
      (h.0, each_set (n + 1) xs at x h.1 (subst (λ (m : ℕ). meets m x) e is))

  -- one value read
  pub each_get : (n : ℕ) (xs : List A) (at : ℕ) (d : A) → AreEach meets n xs → at < length xs → meets (n + at) (slice_index_or xs at d)
  each_get n [] at d h lt = absurd (omega arith)
  each_get n (x ∷ xs) zero d h lt = let e : n ≡ n + zero = omega arith in subst (λ (m : ℕ). meets m x) e h.0
  each_get n (x ∷ xs) (suc at) d h lt = let e : (n + 1) + at ≡ n + suc at = omega arith in
      subst (λ (m : ℕ). meets m (slice_index_or xs at d)) e (each_get (n + 1) xs at d h.1 (omega arith))

  -- one value more
  pub each_more : (n : ℕ) (xs : List A) (x : A) → AreEach meets n xs → meets (n + length xs) x → AreEach meets n (xs ++ x ∷ [])
  each_more n [] x h is = let e : n + zero ≡ n = omega arith in (subst (λ (m : ℕ). meets m x) e is, tt)
  each_more n (y ∷ xs) x h is = let e : n + length (y ∷ xs) ≡ (n + 1) + length xs = omega arith in
      (h.0, each_more (n + 1) xs x h.1 (subst (λ (m : ℕ). meets m x) e is))

  -- the first value, and those after it
  pub each_first : (n : ℕ) (all rest : List A) (x : A) → all ≡ x ∷ rest → AreEach meets n all → meets n x × AreEach meets (n + 1) rest
  each_first n all rest x e h = subst (AreEach meets n) e h

  -- one value more, after n of them
  pub each_next : (xs now : List A) (x : A) (n : ℕ) → length xs ≡ n → now ≡ xs ++ x ∷ [] → AreEach meets 0 xs → meets n x → AreEach meets 0 now
  each_next xs now x n len e h is = let z : n ≡ 0 + length xs = omega arith in
      subst (AreEach meets 0) (sym e) (each_more 0 xs x h (subst (λ (m : ℕ). meets m x) z is))

  -- one value changed, of values by their numbers
  pub routes_set : (xs : List A) (at : ℕ) (now : A) → at < length xs → ((k : ℕ) (x : A) → slice_get xs k ≡ Some x → meets k x) → meets at now → (k : ℕ) (x : A) → slice_get (slice_set xs at now) k ≡ Some x → meets k x
  routes_set xs at now lt all is k x e = ⊎_elim
      (λ (same : k ≡ at).
      let mine : x ≡ now = sym (get_or_from_slice_get (slice_set xs at now) k x now e) ∙ ap (λ (n : ℕ). get_or (slice_set xs at now) n now) same ∙ get_or-set_same xs at now now lt in
      subst (λ (z : ℕ × A). meets z.0 z.1) (λ i. (sym same i, sym mine i)) is)
      (λ (ne : k ≢ at).
      let long : length (slice_set xs at now) ≡ length xs = length-set xs at now in
      let within : k < length (slice_set xs at now) = slice_get_within (slice_set xs at now) k x e in
      let still : get_or xs k x ≡ x = sym (get_or-set_other xs at k now x ne) ∙ get_or_from_slice_get (slice_set xs at now) k x x e in
      all k x (slice_get-get_or xs k x (omega arith) ∙ ap Some still))
      (cases_eq k at)

  -- what was done to the first values, and what the others still meet
  pub routes_done : (did : ℕ → A → Type 0) (xs : List A) (at : ℕ) (now : A) → at < length xs → ((k : ℕ) (x : A) → slice_get xs k ≡ Some x → (k < at → did k x) × (at ≤ k → meets k x)) → did at now → (k : ℕ) (x : A) → slice_get (slice_set xs at now) k ≡ Some x → (k < at + 1 → did k x) × (at + 1 ≤ k → meets k x)
  routes_done did xs at now lt all is k x e = ⊎_elim
      (λ (same : k ≡ at).
      let mine : x ≡ now = sym (get_or_from_slice_get (slice_set xs at now) k x now e) ∙ ap (λ (n : ℕ). get_or (slice_set xs at now) n now) same ∙ get_or-set_same xs at now now lt in
      ((λ _. subst (λ (z : ℕ × A). did z.0 z.1) (λ i. (sym same i, sym mine i)) is), (λ (le : at + 1 ≤ k). absurd (omega arith))))
      (λ (ne : k ≢ at).
      let long : length (slice_set xs at now) ≡ length xs = length-set xs at now in
      let within : k < length (slice_set xs at now) = slice_get_within (slice_set xs at now) k x e in
      let still : get_or xs k x ≡ x = sym (get_or-set_other xs at k now x ne) ∙ get_or_from_slice_get (slice_set xs at now) k x x e in
      let was = all k x (slice_get-get_or xs k x (omega arith) ∙ ap Some still) in
      ((λ (under : k < at + 1). was.0 (omega arith)), (λ (le : at + 1 ≤ k). was.1 (omega arith))))
      (cases_eq k at)

  -- so it is where nothing was to do
  pub routes_kept : (did : ℕ → A → Type 0) (xs : List A) (at : ℕ) → ((k : ℕ) (x : A) → slice_get xs k ≡ Some x → (k < at → did k x) × (at ≤ k → meets k x)) → ((k : ℕ) (x : A) → meets k x → did k x) → (k : ℕ) (x : A) → slice_get xs k ≡ Some x → (k < at + 1 → did k x) × (at + 1 ≤ k → meets k x)
  routes_kept did xs at all is k x e = let was = all k x e in ⊎_elim
      (λ (same : k ≡ at). ((λ _. is k x (was.1 (omega arith))), (λ (le : at + 1 ≤ k). absurd (omega arith))))
      (λ (ne : k ≢ at). ((λ (under : k < at + 1). was.0 (omega arith)), (λ (le : at + 1 ≤ k). was.1 (omega arith))))
      (cases_eq k at)

  -- and in the end
  pub routes_all : (did : ℕ → A → Type 0) (xs : List A) (at : ℕ) → length xs ≡ at → ((k : ℕ) (x : A) → slice_get xs k ≡ Some x → (k < at → did k x) × (at ≤ k → meets k x)) → (k : ℕ) (x : A) → slice_get xs k ≡ Some x → did k x
  routes_all did xs at len all k x e = let within = slice_get_within xs k x e in (all k x e).0 (omega arith)

  pub routes_begin : (did : ℕ → A → Type 0) (xs : List A) → ((k : ℕ) (x : A) → slice_get xs k ≡ Some x → meets k x) → (k : ℕ) (x : A) → slice_get xs k ≡ Some x → (k < 0 → did k x) × (0 ≤ k → meets k x)
  routes_begin did xs all k x e = ((λ (lt : k < 0). absurd (omega arith)), (λ _. all k x e))

  -- one value more, of values by their numbers
  pub routes_next : (xs now : List A) (y : A) (n : ℕ) → length xs ≡ n → now ≡ xs ++ y ∷ [] → ((k : ℕ) (x : A) → slice_get xs k ≡ Some x → meets k x) → meets n y → (k : ℕ) (x : A) → slice_get now k ≡ Some x → meets k x
  routes_next xs now y n len e all is k x found = ⊎_elim
      (λ (same : k ≡ n).
      let there : slice_get (xs ++ y ∷ []) (length xs) ≡ Some x = ap (slice_get (xs ++ y ∷ [])) (len ∙ sym same) ∙ (ap (λ l. slice_get l k) (sym e) ∙ found) in
      let mine : Some y ≡ Some x = sym (get_last xs y) ∙ there in
      subst (λ (z : ℕ × A). meets z.0 z.1) (λ i. (sym same i, some_inj y x mine i)) is)
      (λ (ne : k ≢ n).
      let long = length-append xs (y ∷ []) in
      let found' : slice_get (xs ++ y ∷ []) k ≡ Some x = ap (λ l. slice_get l k) (sym e) ∙ found in
      let within : k < length (xs ++ y ∷ []) = slice_get_within (xs ++ y ∷ []) k x found' in
      let under : k < length xs = omega arith in
      all k x (slice_get_read xs (length xs) k x refl under (sym (get_or_from_slice_get (xs ++ y ∷ []) k x x found') ∙ get_or_append_left xs (y ∷ []) x k under)))
      (cases_eq k n)
    where
      some_inj : (a b : A) → Some a ≡ Some b → a ≡ b
      some_inj a b e = cc

  -- values that meet it by their numbers, one after another
  pub each_of : (xs : List A) → ((k : ℕ) (x : A) → slice_get xs k ≡ Some x → meets k x) → AreEach meets 0 xs
  each_of xs all = from 0 xs (λ k x e. let z : k ≡ 0 + k = omega arith in subst (λ (m : ℕ). meets m x) z (all k x e))
    where
      from : (n : ℕ) (xs : List A) → ((k : ℕ) (x : A) → slice_get xs k ≡ Some x → meets (n + k) x) → AreEach meets n xs
      from n [] all = tt
      from n (x ∷ xs) all = let z : n + 0 ≡ n = omega arith in
          (subst (λ (m : ℕ). meets m x) z (all 0 x refl), from (n + 1) xs (λ k y e. let z : n + suc k ≡ (n + 1) + k = omega arith in subst (λ (m : ℕ). meets m y) z (all (suc k) y e)))

module _ {A : Type 0} where
  -- behind the end nothing is set
  pub set_beyond : (xs : List A) (at : ℕ) (x : A) → length xs ≤ at → slice_set xs at x ≡ xs
  set_beyond [] at x le = refl
  set_beyond (y ∷ xs) zero x le = absurd (omega arith)
  set_beyond (y ∷ xs) (suc at) x le = ap (λ (l : List A). y ∷ l) (set_beyond xs at x (omega arith))
