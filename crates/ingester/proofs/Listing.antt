-- A fact of each value of a list that grows or shrinks at its end.
use Rattle.std.proofs.Common.{◌≡◌, ◌≢◌, ℕ, ◌<◌, List, [], ◌∷◌, ◌++◌, length, length-append, sym, ap, ◌∙◌, subst, ⊎_elim, arith}
use Rattle.std.specs.Prelude.{Some, slice_get}
use Rattle.std.proofs.lemmas.Option.{same_Some, slice_get_within}
use Rattle.std.proofs.lemmas.List.{append-nil}
use Rattle.std.proofs.lemmas.Bool.{cases_eq}
use Rattle.keyed.proofs.Filling.{get_before, get_last}
use Rattle.ingester.proofs.Lasting.{get_front}

module _ {A : Type 0} (P : A → Type 0) where
  abbrev pub Each : List A → Type 0
  Each xs = (k : ℕ) (z : A) → slice_get xs k ≡ Some z → P z

  pub each_front : (all front : List A) (x : A) → all ≡ front ++ x ∷ [] → Each all → Each front × P x
  each_front all front x e h = (
    λ k z at. h k z (ap (λ l. slice_get l k) e ∙ get_before front x z k (slice_get_within front k z at) at),
    h (length front) x (ap (λ l. slice_get l (length front)) e ∙ get_last front x),
  )

  pub each_same : (all front : List A) → all ≡ front ++ [] → Each all → Each front
  each_same all front e h = subst Each (e ∙ append-nil front) h

  pub each_more : (all front : List A) (x : A) → all ≡ front ++ x ∷ [] → Each front → P x → Each all
  each_more all front x e h p = subst Each (sym e) more
    where
      more : Each (front ++ x ∷ [])
      more k z at = ⊎_elim
          (λ (is : k ≡ length front). subst P (same_Some x z (sym (get_last front x) ∙ (ap (slice_get (front ++ x ∷ [])) (sym is) ∙ at))) p)
          (λ (not : k ≢ length front). h k z (get_front front x z k (under k not (slice_get_within (front ++ x ∷ []) k z at)) at))
          (cases_eq k (length front))
        where
          under : (k : ℕ) → k ≢ length front → k < length (front ++ x ∷ []) → k < length front
          under k not lt = let long = length-append front (x ∷ []) in omega arith
