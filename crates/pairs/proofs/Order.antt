-- Sorted names, and names that stand twice.
use Rattle.std.proofs.Common.{◌≡◌, ℕ, ◌+◌, ◌<◌, ◌≤◌, true, false, cond, List, [], ◌∷◌, length, get_or, map, refl, sym, ap, ◌∙◌, arith, zero, suc, add-one, zero-add, ltb, String, string_bytes}
use Rattle.std.specs.declared.cmp.Ordering.{Ordering}
use Rattle.std.specs.declared.cmp.Ordering.TheVariants.{Less, Equal, Greater}
use Rattle.std.specs.declared.alloc.Global.{Global}
use Rattle.std.specs.Ordering.{nat_cmp, is_lt, is_eq, ordering_then, ordering_reverse}
use Rattle.std.specs.Cmp.Lexicographic.{slice_cmp}
use Rattle.std.specs.List.{AllByRecursion, AllAdjacentBelow, list_any}
use Rattle.std.specs.List.Sorted.{IsPermutation, IsSorted}
use Rattle.std.specs.Str.{bytes_eq}
use Rattle.std.proofs.lemmas.Cmp.{nat_list_cmp_total}
use Rattle.std.proofs.lemmas.Map.Text.{is_eq-slice_cmp}
use Rattle.std.proofs.lemmas.Map.Lookups.{exact_bytes}
use Rattle.std.proofs.lemmas.Slice.Eq.{bytes_eq-Decides}
use Rattle.std.proofs.lemmas.List.Elements.{All-from_recursion}
use Rattle.std.proofs.lemmas.List.Sums.{sum_by-cons}
use Rattle.std.proofs.lemmas.List.Folds.{list_any_none, list_any_at}
use Rattle.std.proofs.lemmas.List.Sorted.{list_any-IsPermutation, sum_by-IsPermutation}
use Rattle.std.proofs.lemmas.Bool.Decides.{nat_tests}
use Rattle.std.proofs.lemmas.List.{get_or-map, length-map}
use Rattle.pairs.specs.Labels.{Label, label_of}
use Rattle.pairs.specs.Names.{times_named, repeats_name}
use Rattle.pairs.specs.Names.{NamesRise}

-- the order of pairs of texts
abbrev pub pair_cmp : String Global × String Global → String Global × String Global → Ordering
pair_cmp a b = ordering_then (slice_cmp nat_cmp (string_bytes a.0) (string_bytes b.0)) (slice_cmp nat_cmp (string_bytes a.1) (string_bytes b.1))

less_from : (o : Ordering) → true ≡ is_lt o → o ≡ Less
less_from Less h = refl
less_from Equal h = cc
less_from Greater h = cc

tied : (o p : Ordering) → is_lt (ordering_then o p) ≡ false → is_lt (ordering_reverse o) ≡ false → o ≡ Equal
tied Less p h g = cc
tied Equal p h g = refl
tied Greater p h g = cc

-- one place further in a longer list
pub next_place : {X : Type 0} (x : X) (xs : List X) (k : ℕ) (d : X) → get_or (x ∷ xs) (k + 1) d ≡ get_or xs k d
next_place x xs k d = ap (λ i. get_or (x ∷ xs) i d) (add-one k)

-- each name is below the next, by place
pub rise_from_adjacent : (xs : List (String Global × String Global)) → AllAdjacentBelow (λ (x y : String Global × String Global). true ≡ is_lt (slice_cmp nat_cmp (string_bytes x.0) (string_bytes y.0))) xs (length xs) → NamesRise (map label_of xs)
rise_from_adjacent [] n = tt
rise_from_adjacent (x ∷ []) n = tt
rise_from_adjacent (x ∷ y ∷ ys) n = (
  less_from _ (n 0 x (omega arith)),
  rise_from_adjacent (y ∷ ys) (λ k d h. rw (next_place x (y ∷ ys) (k + 1) d, next_place x (y ∷ ys) k d) at (n (k + 1) d (omega arith))),
)

-- how often a name stands, one label more
named_cons : (name : List ℕ) (p : Label) (ps : List Label) → times_named name (p ∷ ps) ≡ cond (bytes_eq name p.0) 1 0 + times_named name ps
named_cons name p ps = sum_by-cons (λ (q : Label). cond (bytes_eq name q.0) 1 0) p ps

pub same_name : (name : List ℕ) → bytes_eq name name ≡ true
same_name name = (bytes_eq-Decides name name).1 refl

-- names in order differ
pub other_name : (a b : List ℕ) → slice_cmp nat_cmp a b ≡ Less → bytes_eq a b ≡ false
other_name a b h = sym (is_eq-slice_cmp a b) ∙ ap is_eq h

other_name_back : (a b : List ℕ) → slice_cmp nat_cmp a b ≡ Less → bytes_eq b a ≡ false
other_name_back a b h = sym (is_eq-slice_cmp b a) ∙ ap is_eq (nat_list_cmp_total.antisymm b a ∙ ap ordering_reverse h)

abbrev pub Above : List ℕ → List Label → Type 0
Above name ps = AllByRecursion (λ (q : Label). slice_cmp nat_cmp name q.0 ≡ Less) ps

above_more : (a b : List ℕ) (ps : List Label) → slice_cmp nat_cmp a b ≡ Less → Above b ps → Above a ps
above_more a b [] h u = tt
above_more a b (p ∷ ps) h u = (nat_list_cmp_total.trans a b p.0 h u.0, above_more a b ps h u.1)

-- the first of rising names is below the others
pub rise_above : (p : Label) (ps : List Label) → NamesRise (p ∷ ps) → Above p.0 ps
rise_above p [] h = tt
rise_above p (q ∷ qs) h = (h.0, above_more p.0 q.0 qs h.0 (rise_above q qs h.1))

never_named : (name : List ℕ) (ps : List Label) → Above name ps → times_named name ps ≡ 0
never_named name [] h = refl
never_named name (p ∷ ps) h = named_cons name p ps ∙ ap (λ b. cond b 1 0 + times_named name ps) (other_name name p.0 h.0) ∙ zero-add (times_named name ps) ∙ never_named name ps h.1

abbrev pub AreOnce : List Label → List Label → Type 0
AreOnce ps qs = AllByRecursion (λ (q : Label). times_named q.0 ps ≤ 1) qs

once_more : (p : Label) (ps qs : List Label) → Above p.0 qs → AreOnce ps qs → AreOnce (p ∷ ps) qs
once_more p ps [] u h = tt
once_more p ps (q ∷ qs) u h =
    let e : times_named q.0 (p ∷ ps) ≡ times_named q.0 ps = named_cons q.0 p ps ∙ ap (λ b. cond b 1 0 + times_named q.0 ps) (other_name_back p.0 q.0 u.0) ∙ zero-add (times_named q.0 ps) in
    (omega (arith, e, h.0), once_more p ps qs u.1 h.1)

pub rise_tail : (p : Label) (ps : List Label) → NamesRise (p ∷ ps) → NamesRise ps
rise_tail p [] h = tt
rise_tail p (q ∷ qs) h = h.1

once : (ps : List Label) → NamesRise ps → AreOnce ps ps
once [] h = tt
once (p ∷ ps) h =
    let u : Above p.0 ps = rise_above p ps h in
    let e : times_named p.0 (p ∷ ps) ≡ 1 = named_cons p.0 p ps ∙ ap (λ b. cond b 1 0 + times_named p.0 ps) (same_name p.0) ∙ ap (λ n. 1 + n) (never_named p.0 ps u) in
    (omega (arith, e), once_more p ps ps u (once ps (rise_tail p ps h)))

ltb-above : (m n : ℕ) → n ≤ m → ltb m n ≡ false
ltb-above m n h = grind (arith, nat_tests)

ltb-below : (m n : ℕ) → m + 1 ≤ n → ltb m n ≡ true
ltb-below m n h = grind (arith, nat_tests)

-- rising names stand once each
pub rise_once : (ps : List Label) → NamesRise ps → repeats_name ps ≡ false
rise_once ps h = list_any_none (λ p. ltb 1 (times_named p.0 ps)) ps (λ k d l. ltb-above 1 _ (All-from_recursion _ ps (once ps h) k d l))

pub named_tail : (name : List ℕ) (p : Label) (ps : List Label) → times_named name ps ≤ times_named name (p ∷ ps)
named_tail name p ps = omega (arith, named_cons name p ps)

pub named_first : (name : List ℕ) (p : Label) (ps : List Label) → name ≡ p.0 → times_named name (p ∷ ps) ≡ 1 + times_named name ps
named_first name p ps e = named_cons name p ps ∙ ap (λ b. cond b 1 0 + times_named name ps) ((bytes_eq-Decides name p.0).1 e)

twice_at : (ps : List Label) (k : ℕ) (d : Label) → k + 1 < length ps → (get_or ps k d).0 ≡ (get_or ps (k + 1) d).0 → 2 ≤ times_named (get_or ps k d).0 ps
twice_at [] k d l e = omega arith
twice_at (p ∷ []) k d l e = omega arith
twice_at (p ∷ q ∷ qs) zero d l e = omega (arith, named_first p.0 p (q ∷ qs) refl, named_first p.0 q qs e)
twice_at (p ∷ q ∷ qs) (suc k) d l e =
    let name : List ℕ = (get_or (q ∷ qs) k d).0 in
    omega (arith, twice_at (q ∷ qs) k d (omega arith) (e ∙ ap (λ (x : Label). x.0) (ap (λ i. get_or (p ∷ q ∷ qs) i d) (add-one (suc k)) ∙ sym (next_place q qs k d) ∙ ap (λ i. get_or (q ∷ qs) i d) refl)), named_tail name p (q ∷ qs))

-- two neighbours of one name
pub twins_repeat : (ps : List Label) (k : ℕ) (d : Label) → k + 1 < length ps → (get_or ps k d).0 ≡ (get_or ps (k + 1) d).0 → repeats_name ps ≡ true
twins_repeat ps k d l e = list_any_at (λ p. ltb 1 (times_named p.0 ps)) ps k d (omega arith) (ltb-below 1 _ (twice_at ps k d l e))

-- whatever the order
pub repeats_permuted : (ps qs : List Label) → IsPermutation ps qs → repeats_name ps ≡ repeats_name qs
repeats_permuted ps qs h =
    list_any-IsPermutation (λ p. ltb 1 (times_named p.0 ps)) ps qs h
    ∙ (λ i. list_any (λ p. ltb 1 (sym (sum_by-IsPermutation (λ (q : Label). cond (bytes_eq p.0 q.0) 1 0) ps qs h) i)) qs)

-- sorted pairs of which one's name is not below the next
pub stuck_repeats : (xs : List (String Global × String Global)) → IsSorted pair_cmp xs → (k : ℕ) → k + 1 < length xs → ((d : String Global × String Global) → false ≡ is_lt (slice_cmp nat_cmp (string_bytes (get_or xs k d).0) (string_bytes (get_or xs (k + 1) d).0))) → repeats_name (map label_of xs) ≡ true
stuck_repeats [] s k l n = absurd (omega arith)
stuck_repeats (x ∷ xs) s k l n =
    let all : List (String Global × String Global) = x ∷ xs in
    let a : List ℕ = string_bytes (get_or all k x).0 in
    let b : List ℕ = string_bytes (get_or all (k + 1) x).0 in
    let back : slice_cmp nat_cmp a b ≡ ordering_reverse (slice_cmp nat_cmp b a) = nat_list_cmp_total.antisymm a b in
    let same : b ≡ a = exact_bytes b a (tied (slice_cmp nat_cmp b a) _ (s k x (omega arith) l) (sym (ap is_lt back) ∙ sym (n x))) in
    let here : get_or (map label_of all) k (label_of x) ≡ label_of (get_or all k x) = get_or-map label_of all k x (label_of x) (omega arith) in
    let next : get_or (map label_of all) (k + 1) (label_of x) ≡ label_of (get_or all (k + 1) x) = get_or-map label_of all (k + 1) x (label_of x) l in
    twins_repeat (map label_of all) k (label_of x) (simp length-map l) (ap (λ (p : Label). p.0) here ∙ sym same ∙ sym (ap (λ (p : Label). p.0) next))
