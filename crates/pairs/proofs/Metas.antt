-- Sorted pairs, whose names rise or repeat.
use Rattle.std.specs.Cmp.Lexicographic.{pointwise}
use Rattle.std.specs.Cmp.Derive.Mapped.{pointwise-map}
use Rattle.pairs.specs.Metas.{same_pair, same_pairs}
use Rattle.pairs.specs.declared.meta.MetaFault.TheVariants.{Memory, NameTwice}
use Rattle.std.proofs.Common.{suc, zero, ap, arith, Ordering, Less, Equal, Greater, Bool, ◌⊎◌, inr, sym, subst, ◌≡◌, ℕ, ◌+◌, ◌<◌, true, false, List, [], ◌∷◌, length, get_or, map, refl, ◌∙◌, String, string_bytes, Result, Ok, Err, IfOk, Vec, vec_len}
use Rattle.std.specs.Result.{MatchResult}
use Rattle.std.specs.declared.alloc.Global.{Global}
use Rattle.std.specs.List.{AllAdjacentBelow, AllZip}
use Rattle.std.specs.Ordering.{nat_cmp, is_lt}
use Rattle.std.specs.Cmp.Lexicographic.{slice_cmp}
use Rattle.std.specs.List.Sorted.{IsPermutation, IsSorted}
use Rattle.std.proofs.lemmas.List.Sorted.{IsPermutation-map}
use Rattle.pairs.specs.Labels.{Label, label_of}
use Rattle.pairs.specs.Names.{NamesRise}
use Rattle.pairs.specs.Names.{repeats_name}
use Rattle.pairs.proofs.Order.{pair_cmp, repeats_permuted, rise_from_adjacent, stuck_repeats}

-- a pair whose name is not below the next one's
abbrev pub IsStuck : List (String Global × String Global) → Type 0
IsStuck es = (k : ℕ) × (k + 1 < length es) × ((d : String Global × String Global) → false ≡ is_lt (slice_cmp nat_cmp (string_bytes (get_or es k d).0) (string_bytes (get_or es (k + 1) d).0)))

pub repeats_when_stuck : (xs ys es : List (String Global × String Global)) → IsPermutation xs ys → IsSorted pair_cmp ys → es ≡ ys → IsStuck es → repeats_name (map label_of xs) ≡ true
repeats_when_stuck xs ys es m s f stuck =
    let at : IsStuck ys = rw f at stuck in
    repeats_permuted _ _ (IsPermutation-map label_of xs ys m) ∙ stuck_repeats ys s at.0 at.1 at.2

pub rise_when_below : (ys es : List (String Global × String Global)) → es ≡ ys
    → AllAdjacentBelow (λ (x y : String Global × String Global). true ≡ is_lt (slice_cmp nat_cmp (string_bytes x.0) (string_bytes y.0))) es (length es)
    → NamesRise (map label_of ys)
rise_when_below ys es f adjacent = rise_from_adjacent ys (rw f at adjacent)

less_is_lt : (o : Ordering) → o ≡ Less → false ≡ is_lt o → ⊥
less_is_lt Less l f = cc
less_is_lt Equal l f = cc
less_is_lt Greater l f = cc

stuck_at : (es : List (String Global × String Global)) (k : ℕ) → k + 1 < length es → ((d : String Global × String Global) → false ≡ is_lt (slice_cmp nat_cmp (string_bytes (get_or es k d).0) (string_bytes (get_or es (k + 1) d).0))) → NamesRise (map label_of es) → ⊥
stuck_at [] k l n rise = absurd (omega arith)
stuck_at (x ∷ []) k l n rise = absurd (omega arith)
stuck_at (x ∷ y ∷ ys) zero l n rise = less_is_lt _ rise.0 (n x)
stuck_at (x ∷ y ∷ ys) (suc k) l n rise =
    let more : suc k + 1 ≡ suc (k + 1) = omega arith in
    stuck_at (y ∷ ys) k (omega arith) (λ d. n d ∙ ap (λ i. is_lt (slice_cmp nat_cmp (string_bytes (get_or (y ∷ ys) k d).0) (string_bytes (get_or (x ∷ y ∷ ys) i d).0))) more) rise.1

-- names that rise are nowhere stuck
pub rise_nowhere_stuck : (es ys : List (String Global × String Global)) → es ≡ ys → IsStuck es → NamesRise (map label_of ys) → ⊥
rise_nowhere_stuck es ys f stuck rise =
    let at : IsStuck ys = rw f at stuck in
    stuck_at ys at.0 at.1 at.2 rise

-- copies have the same pairs
abbrev pub IsCopy : String Global × String Global → String Global × String Global → Type 0
IsCopy x y = (string_bytes y.0 ≡ string_bytes x.0) × (string_bytes y.1 ≡ string_bytes x.1)

pub same_copies : (xs ys : List (String Global × String Global)) → AllZip IsCopy xs ys → map label_of ys ≡ map label_of xs
same_copies [] [] h = refl
same_copies [] (y ∷ ys) h = elim h [ ]
same_copies (x ∷ xs) [] h = elim h [ ]
same_copies (x ∷ xs) (y ∷ ys) h = λ i. (h.0.0 i, h.0.1 i) ∷ same_copies xs ys h.1 i

pub copies_are : {E : Type 0} (N : E → Type 0) (r : Result (Vec (String Global × String Global) Global) E) (xs : List (String Global × String Global)) (n : ℕ)
    → MatchResult r (λ w. AllZip IsCopy xs w.items × (vec_len w ≡ n)) N → IfOk r (λ w. map label_of w.items ≡ map label_of xs)
copies_are N (Ok w) xs n h = same_copies xs w.items h.0
copies_are N (Err e) xs n h = tt

pub fault_when_stuck : (xs ys es : List (String Global × String Global)) → IsPermutation xs ys → IsSorted pair_cmp ys → es ≡ ys → IsStuck es
    → (NameTwice ≡ Memory) ⊎ ((NameTwice ≡ NameTwice) × (repeats_name (map label_of xs) ≡ true))
fault_when_stuck xs ys es m s f stuck = inr (refl, repeats_when_stuck xs ys es m s f stuck)

pub pairs_when_sorted : (xs ys : List (String Global × String Global)) (meta : List Label) → IsPermutation xs ys → meta ≡ map label_of ys → IsPermutation (map label_of xs) meta
pairs_when_sorted xs ys meta m e =
    let P : List Label → Type 0 = λ v. IsPermutation (map label_of xs) v in
    subst P (sym e) (IsPermutation-map label_of xs ys m)

pub same_when_equal : (a b : List Label) (xs ys : List (String Global × String Global)) (r : Bool) → map label_of xs ≡ a → map label_of ys ≡ b
    → r ≡ pointwise (λ x y. same_pair (label_of x) (label_of y)) xs ys → r ≡ same_pairs a b
same_when_equal a b xs ys r f g e = e ∙ sym (pointwise-map label_of same_pair xs ys) ∙ (λ i. same_pairs (f i) (g i))
