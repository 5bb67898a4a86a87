-- Each step of a queue keeps its rule.
use Rattle.std.proofs.Common.{◌≡◌, ◌≢◌, ◌⊎◌, ℕ, zero, suc, List, [], ◌∷◌, ◌++◌, inl, inr, refl, sym, ap, ◌∙◌, subst, ⊎_elim}
use Rattle.std.specs.Prelude.{slice_set}
use mathlib.Core.Option.{some, some-ne-none}
use lib.ListN.{get_elem?}
use Rattle.atomic_table.proofs.Lists.{at_set, at_snoc}
use Rattle.crossbeam_channel.specs.Fifo.{Pushes, Pops, Forks}
use Rattle.keyed.specs.declared.binding.Binding.{Binding}
use Rattle.keyed.specs.declared.binding.Binding.TheVariants.{Unbound, Bound}
use Rattle.keyed.specs.declared.binding.EndView.{EndView}
use Rattle.keyed.specs.Bindings.{FitsBinding, IsBound, AreBound, IsUnusedOrBound, unused, with_received}

module _ {K : Type 0} where
  abbrev is_bound : Binding K → ℕ
  is_bound Unbound = 0
  is_bound (Bound key n) = 1

  unbound_bound : (key : K) (n : ℕ) → Unbound ≡ Bound key n → ⊥
  unbound_bound key n e = let z : 0 ≡ 1 = ap is_bound e in cc

module _ {V : Type 0} where
  -- in a list of one
  only : (v w : V) (j : ℕ) → get_elem? (v ∷ []) j ≡ some w → (j ≡ 0) × (v ≡ w)
  only v w zero e = (refl, ap (λ z. z) (some-inj e))
    where
      some-inj : some v ≡ some w → v ≡ w
      some-inj e = cc
  only v w (suc j) e = absurd (some-ne-none w (sym e))

module _ {T K : Type 0} (fits : K → ℕ → T → Type 0) where
  abbrev R : List T → List (EndView T K) → Type 0
  R = IsUnusedOrBound fits

  pub begins : R [] (unused ∷ [])
  begins = inl (refl, refl)

  knots_set : (key : K) (n : ℕ) (ends : List (EndView T K)) (port : ℕ) (w : EndView T K) → w.binding ≡ Bound key n → ((j : ℕ) (v : EndView T K) → j ≢ port → get_elem? ends j ≡ some v → v.binding ≡ Bound key n) → (j : ℕ) (v : EndView T K) → get_elem? (slice_set ends port w) j ≡ some v → v.binding ≡ Bound key n
  knots_set key n ends port w is h j v e = ⊎_elim
      (λ (t : (j ≡ port) × (w ≡ v)). ap (λ (u : EndView T K). u.binding) (sym t.1) ∙ is)
      (λ (t : (j ≢ port) × (get_elem? ends j ≡ some v)). h j v t.0 t.1)
      (at_set ends port j w v e)

  -- in the list of the one end of a new queue
  lone : (ends : List (EndView T K)) (j : ℕ) (v : EndView T K) → ends ≡ unused ∷ [] → get_elem? ends j ≡ some v → (j ≡ 0) × (unused ≡ v)
  lone ends j v new e = only unused v j (ap (λ (l : List (EndView T K)). get_elem? l j) (sym new) ∙ e)

  -- a queue with an end that is bound is not new
  not_new : (ends : List (EndView T K)) (port : ℕ) (v : EndView T K) → ends ≡ unused ∷ [] → get_elem? ends port ≡ some v → Unbound ≡ v.binding
  not_new ends port v new at = ap (λ (u : EndView T K). u.binding) (lone ends port v new at).1

  pub ties : (port : ℕ) (v w : EndView T K) (key : K) (n : ℕ) → v ≡ unused → w.binding ≡ Bound key n → Forks R port v w w
  ties port v w key n new is items ends h at = elim h [
    | inl none ↦ inr (
      key,
      n,
      record {
        item = λ i x e. absurd (some-ne-none x (sym (ap (λ (l : List T). get_elem? l i) (sym none.0) ∙ e)));
        binding = λ j u e. ⊎_elim
            (λ (t : get_elem? (slice_set ends port w) j ≡ some u).
            knots_set key n ends port w is
            (λ i y ne there. absurd (ne ((lone ends i y none.1 there).0 ∙ sym (lone ends port v none.1 at).0)))
            j u t)
            (λ (t : w ≡ u). ap (λ (z : EndView T K). z.binding) (sym t) ∙ is)
            (at_snoc (slice_set ends port w) w u j e);
      },
    )
    | inr tied ↦ absurd (unbound_bound tied.0 tied.1 (sym (ap (λ (u : EndView T K). u.binding) new) ∙ tied.2.binding port v at))
  ]

  -- what is bound stays so
  same : (key : K) (n : ℕ) (old now : List T) (ends : List (EndView T K)) (port : ℕ) (v w : EndView T K) → w.binding ≡ v.binding → AreBound fits key n old ends → get_elem? ends port ≡ some v → ((i : ℕ) (x : T) → get_elem? now i ≡ some x → fits key n x) → AreBound fits key n now (slice_set ends port w)
  same key n old now ends port v w is h at each = record {
    item = each;
    binding = knots_set key n ends port w (is ∙ h.binding port v at) (λ j u _ e. h.binding j u e);
  }

  pub sends : (room port : ℕ) (v : EndView T K) (x : T) → FitsBinding fits v.binding x → Pushes R room port v x (λ w. w ≡ v)
  sends room port v x fit items ends _ h at = (
    v,
    elim h [
      | inl none ↦ absurd (subst (λ (z : Binding K). FitsBinding fits z x) (sym (not_new ends port v none.1 at)) fit)
      | inr tied ↦ inr (
        tied.0,
        tied.1,
        same tied.0 tied.1 items (items ++ x ∷ []) ends port v v refl tied.2 at
            (λ i y e. ⊎_elim
            (λ (t : get_elem? items i ≡ some y). tied.2.item i y t)
            (λ (t : x ≡ y). subst (fits tied.0 tied.1) t (subst (λ (z : Binding K). FitsBinding fits z x) (tied.2.binding port v at) fit))
            (at_snoc items x y i e)),
      )
    ],
    refl,
  )

  pub gets : (port : ℕ) (v : EndView T K) → Pops R port v (λ x w. (w ≡ with_received v x) × FitsBinding fits v.binding x)
  gets port v x items ends h at = elim h [
    | inl none ↦ absurd (no_item x items none.0)
    | inr tied ↦ (
      with_received v x,
      inr (tied.0, tied.1, same tied.0 tied.1 (x ∷ items) items ends port v (with_received v x) refl tied.2 at (λ i y e. tied.2.item (suc i) y e)),
      (refl, subst (λ (z : Binding K). FitsBinding fits z x) (sym (tied.2.binding port v at)) (tied.2.item 0 x refl)),
    )
  ]
    where
      no_item : (x : T) (items : List T) → x ∷ items ≡ [] → ⊥
      no_item x items e = cc

  pub forks : (port : ℕ) (v : EndView T K) → IsBound v.binding → Forks R port v v v
  forks port v is items ends h at = elim h [
    | inl none ↦ absurd (subst IsBound (sym (not_new ends port v none.1 at)) is)
    | inr tied ↦ let more = same tied.0 tied.1 items items ends port v v refl tied.2 at tied.2.item in
        inr (
          tied.0,
          tied.1,
          record {
            item = more.item;
            binding = λ j u e. ⊎_elim (λ (t : get_elem? (slice_set ends port v) j ≡ some u). more.binding j u t) (λ (t : v ≡ u). ap (λ (z : EndView T K). z.binding) (sym t) ∙ tied.2.binding port v at) (at_snoc (slice_set ends port v) v u j e);
          },
        )
  ]
