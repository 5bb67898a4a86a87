-- A list of rising names is fixed by the labels in it.
use Rattle.std.proofs.Common.{◌≡◌, ℕ, ◌<◌, ◌⊎◌, inl, inr, List, [], ◌∷◌, length, get_or, refl, sym, ap, ◌∙◌, subst, arith, zero, suc}
use Rattle.std.specs.List.{AllByRecursion, Contains}
use Rattle.std.specs.List.Sorted.{IsPermutation}
use Rattle.std.specs.Ordering.{nat_cmp}
use Rattle.std.specs.Cmp.Lexicographic.{slice_cmp}
use Rattle.std.specs.declared.cmp.Ordering.TheVariants.{Less}
use Rattle.std.proofs.lemmas.Bool.{false≢true}
use Rattle.std.proofs.lemmas.Cmp.{nat_list_cmp_total}
use Rattle.std.proofs.lemmas.List.Elements.{All-contains_itself, recursion_from_All}
use Rattle.std.proofs.lemmas.List.Sorted.{All-permutation, IsPermutation-sym, IsPermutation-trans}
use Rattle.pairs.specs.Labels.{Label}
use Rattle.labels.specs.Canonical.{IsTextOf, set_text}
use Rattle.pairs.specs.Names.{NamesRise}
use Rattle.pairs.proofs.Order.{Above, rise_above, rise_tail, same_name, other_name}
use Rattle.labels.proofs.Unique.{one_set}

abbrev Among : Label → List Label → Type 0
Among x [] = ⊥
Among x (y ∷ ys) = (x ≡ y) ⊎ Among x ys

among_at : (xs : List Label) (k : ℕ) (x d : Label) → k < length xs → get_or xs k d ≡ x → Among x xs
among_at [] k x d l e = absurd (omega arith)
among_at (y ∷ ys) zero x d l e = inl (sym e)
among_at (y ∷ ys) (suc k) x d l e = inr (among_at ys k x d (omega arith) e)

-- each label of the second list is in the first
among_permuted : (ps qs : List Label) → IsPermutation ps qs → (x : Label) → Among x qs → Among x ps
among_permuted ps qs h x a = by qs (recursion_from_All (Contains ps) qs (All-permutation (Contains ps) ps qs h (All-contains_itself ps))) a
  where
    by : (zs : List Label) → AllByRecursion (Contains ps) zs → Among x zs → Among x ps
    by [] c a = elim a [ ]
    by (z ∷ zs) c (inl e) = let at = c.0 in among_at ps at.0 x z at.1 (at.2 ∙ sym e)
    by (z ∷ zs) c (inr m) = by zs c.1 m

above_each : (name : List ℕ) (ps : List Label) (x : Label) → Above name ps → Among x ps → slice_cmp nat_cmp name x.0 ≡ Less
above_each name [] x u m = elim m [ ]
above_each name (p ∷ ps) x u (inl e) = let P : Label → Type 0 = λ y. slice_cmp nat_cmp name y.0 ≡ Less in subst P (sym e) u.0
above_each name (p ∷ ps) x u (inr m) = above_each name ps x u.1 m

not_itself : (name : List ℕ) → slice_cmp nat_cmp name name ≡ Less → ⊥
not_itself name h = false≢true (sym (other_name name name h) ∙ same_name name)

-- the first of rising names does not stand again
not_again : (p : Label) (ps : List Label) → NamesRise (p ∷ ps) → Among p ps → ⊥
not_again p ps r m = not_itself p.0 (above_each p.0 ps p (rise_above p ps r) m)

same_first : (p q : Label) (ps qs : List Label) → NamesRise (p ∷ ps) → NamesRise (q ∷ qs) → (p ≡ q) ⊎ Among p qs → (q ≡ p) ⊎ Among q ps → p ≡ q
same_first p q ps qs r s (inl e) b = e
same_first p q ps qs r s (inr m) (inl e) = sym e
same_first p q ps qs r s (inr m) (inr n) =
    absurd (not_itself p.0 (nat_list_cmp_total.trans p.0 q.0 p.0 (above_each p.0 ps q (rise_above p ps r) n) (above_each q.0 qs p (rise_above q qs s) m)))

behind : (p q x : Label) (ps qs : List Label) → p ≡ q → NamesRise (p ∷ ps) → Among x ps → (x ≡ q) ⊎ Among x qs → Among x qs
behind p q x ps qs e r m (inl f) = let P : Label → Type 0 = λ y. Among y ps in absurd (not_again p ps r (subst P (f ∙ sym e) m))
behind p q x ps qs e r m (inr n) = n

same_rising : (ps qs : List Label) → NamesRise ps → NamesRise qs → ((x : Label) → Among x ps → Among x qs) → ((x : Label) → Among x qs → Among x ps) → ps ≡ qs
same_rising [] [] r s f g = refl
same_rising [] (q ∷ qs) r s f g = absurd (g q (inl refl))
same_rising (p ∷ ps) [] r s f g = absurd (f p (inl refl))
same_rising (p ∷ ps) (q ∷ qs) r s f g =
    let first : p ≡ q = same_first p q ps qs r s (f p (inl refl)) (g q (inl refl)) in
    let rest : ps ≡ qs = same_rising ps qs (rise_tail p ps r) (rise_tail q qs s)
    (λ x m. behind p q x ps qs first r m (f x (inr m)))
    (λ x m. behind q p x qs ps (sym first) s m (g x (inr m))) in
    λ i. first i ∷ rest i

-- labels have one text, in whatever order they are given
pub one_text_of : (t u : List ℕ) (pairs others : List Label) → IsPermutation pairs others → IsTextOf t pairs → IsTextOf u others → t ≡ u
one_text_of t u pairs others h a b =
    let ps : List Label = a.0 in
    let qs : List Label = b.0 in
    let moved : IsPermutation ps qs = IsPermutation-trans ps pairs qs (IsPermutation-sym pairs ps a.1) (IsPermutation-trans pairs others qs h b.1) in
    let same : ps ≡ qs = same_rising ps qs a.2.rise b.2.rise (among_permuted qs ps (IsPermutation-sym ps qs moved)) (among_permuted ps qs moved) in
    a.2.printed ∙ ap set_text same ∙ sym b.2.printed

-- a text is that of one set of labels
pub one_set_of : (t : List ℕ) (pairs others : List Label) → IsTextOf t pairs → IsTextOf t others → IsPermutation pairs others
one_set_of t pairs others a b =
    let same : a.0 ≡ b.0 = one_set t a.0 b.0 a.2 b.2 in
    let P : List Label → Type 0 = λ ps. IsPermutation pairs ps in
    IsPermutation-trans pairs b.0 others (subst P same a.1) (IsPermutation-sym others b.0 b.1)
