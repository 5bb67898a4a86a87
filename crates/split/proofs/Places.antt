-- A value that is taken out of a list and put back.
use Rattle.std.proofs.Common.{◌≡◌, ◌≢◌, ℕ, ◌+◌, ◌-◌, ◌<◌, List, [], ◌∷◌, ◌++◌, length, get_or, set, sym, ap, ◌∙◌, subst, ⊎_elim, arith}
use Rattle.std.proofs.lemmas.List.{length-set, length-take, length-append, get_or-set_same, get_or-set_other, get_or-take, get_or_append_left, get_or_at, get_or_default, same_lists}
use Rattle.std.proofs.lemmas.Bool.{cases_eq}
use Rattle.std.specs.List.{swap_remove, SwappedAt}

module _ {A : Type 0} where
  -- what is left, with the value after it and then swapped to the place
  pub put_back : (all ys : List A) (i : ℕ) (taken v : A) → i < length all → SwappedAt (swap_remove all i taken ++ v ∷ []) ys i (length all - 1) → length ys ≡ length all → ys ≡ set all i v
  put_back all ys i taken v lt swapped len = same_lists ys (set all i v) (len ∙ sym (length-set all i v)) each
    where
      last : A
      last = get_or all (length all - 1) taken

      left : List A
      left = swap_remove all i taken

      length-left : length left ≡ length all - 1
      length-left = let a = length-take (length all - 1) (set all i last) in let b = length-set all i last in omega (arith, a, b)

      others : (k : ℕ) (d : A) → k < length all - 1 → get_or (left ++ v ∷ []) k d ≡ get_or (set all i last) k d
      others k d lt = get_or_append_left left (v ∷ []) d k (let e = length-left in omega arith) ∙ get_or-take (length all - 1) (set all i last) k d lt

      each : (k : ℕ) (d : A) → k < length ys → get_or ys k d ≡ get_or (set all i v) k d
      each k d under =
          ⊎_elim
          (λ (is : k ≡ i). ap (λ (j : ℕ). get_or ys j d) is ∙ (swapped.0 d ∙ get_or_at left v [] d (length all - 1) length-left) ∙ sym (get_or-set_same all i v d lt) ∙ ap (λ (j : ℕ). get_or (set all i v) j d) (sym is))
          (λ (not : k ≢ i). ⊎_elim
          (λ (end : k ≡ length all - 1).
          ap (λ (j : ℕ). get_or ys j d) end ∙ swapped.1 d
          ∙ others i d (omega (arith, lt, not, end))
          ∙ get_or-set_same all i last d lt
          ∙ get_or_default all (length all - 1) taken d (omega (arith, lt))
          ∙ ap (λ (j : ℕ). get_or all j d) (sym end)
          ∙ sym (get_or-set_other all i k v d not))
          (λ (inner : k ≢ length all - 1).
          swapped.2 k d not inner
          ∙ others k d (omega (arith, under, len, inner))
          ∙ get_or-set_other all i k last d not
          ∙ sym (get_or-set_other all i k v d not))
          (cases_eq k (length all - 1)))
          (cases_eq k i)

  -- as a list is left whose last value was put after it and swapped
  pub put_behind : (all before zs ys : List A) (i last : ℕ) (taken v : A) → i < length all → before ≡ swap_remove all i taken → zs ≡ before ++ v ∷ [] → last ≡ length before → length ys ≡ length zs → SwappedAt zs ys i last → ys ≡ set all i v
  put_behind all before zs ys i last taken v lt is behind at len swapped =
      let short : length before ≡ length all - 1 = ap length is ∙ (let a = length-take (length all - 1) (set all i (get_or all (length all - 1) taken)) in let b = length-set all i (get_or all (length all - 1) taken) in omega (arith, a, b)) in
      let zs_is : zs ≡ swap_remove all i taken ++ v ∷ [] = behind ∙ ap (λ (l : List A). l ++ v ∷ []) is in
      let long : length zs ≡ length before + 1 = ap length behind ∙ length-append before (v ∷ []) in
      put_back all ys i taken v lt (subst (λ (l : List A). SwappedAt l ys i (length all - 1)) zs_is (subst (λ (j : ℕ). SwappedAt zs ys i j) (at ∙ short) swapped)) (omega (arith, len, long, short, lt))
