-- All lists of some lengths, with each item out of what is open at its place.
use Rattle.std.proofs.Common.{◌≡◌, ◌≤◌, ◌<◌, ℕ, zero, suc, ◌+◌, ◌*◌, List, [], ◌∷◌, ◌++◌, length, get_or, take, refl, ap, sym, subst, inl, inr, ◌∙◌, arith, length-append, add-one}
use Rattle.std.proofs.lemmas.List.{nil_from_length, take_more, take_all, length_push, same_from_push, get_or_append_left, get_or_push, length-take-le, get_or-take}
use Rattle.memory_disk.specs.Beginnings.{extended, each_longer, all_beginnings, of_lengths}
use Rattle.disk.proofs.Ranges.{ltb_cases}
use Rattle.memory_disk.proofs.Lists.{Among, Distinct, among-append, among-append_left, among-append_right, distinct-append}

-- each item is out of what is open at its place
abbrev pub Fits : (ℕ → List ℕ) → List ℕ → Type 0
Fits options c = (i : ℕ) → i < length c → Among (options i) (get_or c i 0)

among-extended : (front vs c : List ℕ) → Among (extended front vs) c → (v : ℕ) × Among vs v × (c ≡ front ++ v ∷ [])
among-extended front [] c in_all = absurd in_all
among-extended front (v ∷ vs) c (inl here) = (v, inl refl, sym here)
among-extended front (v ∷ vs) c (inr there) = let found : (w : ℕ) × Among vs w × (c ≡ front ++ w ∷ []) = among-extended front vs c there in (found.0, inr found.1, found.2)

extended-among : (front vs : List ℕ) (v : ℕ) → Among vs v → Among (extended front vs) (front ++ v ∷ [])
extended-among front [] v in_vs = absurd in_vs
extended-among front (w ∷ vs) v (inl here) = inl (ap (λ (x : ℕ). front ++ x ∷ []) here)
extended-among front (w ∷ vs) v (inr there) = inr (extended-among front vs v there)

distinct-extended : (front vs : List ℕ) → Distinct vs → Distinct (extended front vs)
distinct-extended front [] d = tt
distinct-extended front (v ∷ vs) d = (
  (λ again. let found : (w : ℕ) × Among vs w × (front ++ v ∷ [] ≡ front ++ w ∷ []) = among-extended front vs (front ++ v ∷ []) again in
      d.0 (subst (λ (x : ℕ). Among vs x) (sym (same_from_push front front v found.0 found.2).1) found.1)),
  distinct-extended front vs d.1,
)

among-longer : (all : List (List ℕ)) (vs c : List ℕ) → Among (each_longer all vs) c → (f : List ℕ) × (v : ℕ) × Among all f × Among vs v × (c ≡ f ++ v ∷ [])
among-longer [] vs c in_all = absurd in_all
among-longer (f ∷ all) vs c in_all = elim (among-append (extended f vs) (each_longer all vs) c in_all) [
  | inl here ↦ (let found : (v : ℕ) × Among vs v × (c ≡ f ++ v ∷ []) = among-extended f vs c here in (f, found.0, inl refl, found.1, found.2))
  | inr there ↦ (let found : (g : List ℕ) × (v : ℕ) × Among all g × Among vs v × (c ≡ g ++ v ∷ []) = among-longer all vs c there in
      (found.0, found.1, inr found.2, found.3, found.4))
]

longer-among : (all : List (List ℕ)) (vs f : List ℕ) (v : ℕ) → Among all f → Among vs v → Among (each_longer all vs) (f ++ v ∷ [])
longer-among [] vs f v in_all in_vs = absurd in_all
longer-among (g ∷ all) vs f v (inl here) in_vs =
    among-append_left (extended g vs) (each_longer all vs) (f ++ v ∷ [])
    (subst (λ (x : List ℕ). Among (extended g vs) (x ++ v ∷ [])) here (extended-among g vs v in_vs))
longer-among (g ∷ all) vs f v (inr there) in_vs = among-append_right (extended g vs) (each_longer all vs) (f ++ v ∷ []) (longer-among all vs f v there in_vs)

distinct-longer : (all : List (List ℕ)) (vs : List ℕ) → Distinct all → Distinct vs → Distinct (each_longer all vs)
distinct-longer [] vs da dv = tt
distinct-longer (f ∷ all) vs da dv = distinct-append (extended f vs) (each_longer all vs) (distinct-extended f vs dv) (distinct-longer all vs da.1 dv)
    (λ c left right.
    let one : (v : ℕ) × Among vs v × (c ≡ f ++ v ∷ []) = among-extended f vs c left in
    let other : (g : List ℕ) × (v : ℕ) × Among all g × Among vs v × (c ≡ g ++ v ∷ []) = among-longer all vs c right in
    da.0 (subst (λ (x : List ℕ). Among all x) (sym (same_from_push f other.0 one.0 other.1 (sym one.2 ∙ other.4)).0) other.2))

pub length-fronts : (options : ℕ → List ℕ) (n : ℕ) (c : List ℕ) → Among (all_beginnings options n) c → length c ≡ n
length-fronts options zero c (inl here) = ap length (sym here)
length-fronts options zero c (inr there) = absurd there
length-fronts options (suc n) c in_all =
    let found : (f : List ℕ) × (v : ℕ) × Among (all_beginnings options n) f × Among (options n) v × (c ≡ f ++ v ∷ []) = among-longer (all_beginnings options n) (options n) c in_all in
    omega (arith, ap length found.4, length_push found.0 found.1, length-fronts options n found.0 found.2)

fits-longer : (options : ℕ → List ℕ) (n : ℕ) (f : List ℕ) (v : ℕ) (c : List ℕ) → c ≡ f ++ v ∷ [] → length f ≡ n → Fits options f → Among (options n) v → Fits options c
fits-longer options n f v c e long fits in_vs i h = elim (ltb_cases i n) [
  | inl before ↦ subst (λ (x : ℕ). Among (options i) x)
      (sym (ap (λ (xs : List ℕ). get_or xs i 0) e ∙ get_or_append_left f (v ∷ []) 0 i (omega arith))) (fits i (omega arith))
  | inr last ↦ (let at_n : i ≡ n = omega (arith, ap length e, length_push f v) in
      subst (λ (k : ℕ). Among (options k) (get_or c i 0)) (sym at_n)
      (subst (λ (x : ℕ). Among (options n) x) (sym (ap (λ (xs : List ℕ). get_or xs i 0) e ∙ get_or_push f v 0 i (omega arith))) in_vs))
]

pub fits-fronts : (options : ℕ → List ℕ) (n : ℕ) (c : List ℕ) → Among (all_beginnings options n) c → Fits options c
fits-fronts options zero c in_all = λ i h. absurd (omega (arith, length-fronts options zero c in_all))
fits-fronts options (suc n) c in_all = λ i h.
    let found : (f : List ℕ) × (v : ℕ) × Among (all_beginnings options n) f × Among (options n) v × (c ≡ f ++ v ∷ []) = among-longer (all_beginnings options n) (options n) c in_all in
    fits-longer options n found.0 found.1 c found.4 (length-fronts options n found.0 found.2) (fits-fronts options n found.0 found.2) found.3 i h

pub fronts-fits : (options : ℕ → List ℕ) (n : ℕ) (c : List ℕ) → length c ≡ n → Fits options c → Among (all_beginnings options n) c
fronts-fits options zero c long fits = inl (sym (nil_from_length c long))
fronts-fits options (suc n) c long fits =
    let whole : c ≡ take n c ++ get_or c n 0 ∷ [] = sym (take_all (n + 1) c (omega arith)) ∙ take_more c n 0 (omega arith) in
    let size : length (take n c) ≡ n = length-take-le n c (omega arith) in
    subst (λ (xs : List ℕ). Among (all_beginnings options (suc n)) xs) (sym whole)
    (longer-among (all_beginnings options n) (options n) (take n c) (get_or c n 0)
    (fronts-fits options n (take n c) size
    (λ i h. subst (λ (x : ℕ). Among (options i) x) (sym (get_or-take n c i 0 (omega (arith, size)))) (fits i (omega (arith, size)))))
    (fits n (omega arith)))

pub distinct-fronts : (options : ℕ → List ℕ) → ((i : ℕ) → Distinct (options i)) → (n : ℕ) → Distinct (all_beginnings options n)
distinct-fronts options each zero = ((λ none. none), tt)
distinct-fronts options each (suc n) = distinct-longer (all_beginnings options n) (options n) (distinct-fronts options each n) (each n)

pub lengths-of : (options : ℕ → List ℕ) (low k : ℕ) (c : List ℕ) → Among (of_lengths options low k) c
    → (low ≤ length c) × (length c < low + k) × Fits options c
lengths-of options low zero c in_all = absurd in_all
lengths-of options low (suc k) c in_all = elim (among-append (of_lengths options low k) (all_beginnings options (low + k)) c in_all) [
  | inl before ↦ (let old : (low ≤ length c) × (length c < low + k) × Fits options c = lengths-of options low k c before in (old.0, omega (arith, old.1), old.2))
  | inr last ↦ (let long : length c ≡ low + k = length-fronts options (low + k) c last in (omega arith, omega arith, fits-fronts options (low + k) c last))
]

pub of-lengths : (options : ℕ → List ℕ) (low k : ℕ) (c : List ℕ) → low ≤ length c → length c < low + k → Fits options c
    → Among (of_lengths options low k) c
of-lengths options low zero c from below fits = absurd (omega arith)
of-lengths options low (suc k) c from below fits = elim (ltb_cases (length c) (low + k)) [
  | inl before ↦ among-append_left (of_lengths options low k) (all_beginnings options (low + k)) c (of-lengths options low k c from before fits)
  | inr last ↦ among-append_right (of_lengths options low k) (all_beginnings options (low + k)) c (fronts-fits options (low + k) c (omega arith) fits)
]

pub distinct-lengths : (options : ℕ → List ℕ) → ((i : ℕ) → Distinct (options i)) → (low k : ℕ) → Distinct (of_lengths options low k)
distinct-lengths options each low zero = tt
distinct-lengths options each low (suc k) =
    distinct-append (of_lengths options low k) (all_beginnings options (low + k)) (distinct-lengths options each low k) (distinct-fronts options each (low + k))
    (λ c before last. absurd (omega (arith, (lengths-of options low k c before).1, length-fronts options (low + k) c last)))

length-extended : (f vs : List ℕ) → length (extended f vs) ≡ length vs
length-extended f [] = refl
length-extended f (v ∷ vs) = ap suc (length-extended f vs)

length-longer : (all : List (List ℕ)) (vs : List ℕ) → length (each_longer all vs) ≡ length all * length vs
length-longer [] vs = omega arith
length-longer (f ∷ all) vs = omega (arith, length-append (extended f vs) (each_longer all vs), length-extended f vs, length-longer all vs)

-- the number of beginnings, one item on
pub length-fronts-next : (options : ℕ → List ℕ) (n : ℕ) → length (all_beginnings options (suc n)) ≡ length (all_beginnings options n) * length (options n)
length-fronts-next options n = length-longer (all_beginnings options n) (options n)

pub length-fronts-suc : (options : ℕ → List ℕ) (n : ℕ) → length (all_beginnings options (n + 1)) ≡ length (all_beginnings options n) * length (options n)
length-fronts-suc options n = rw add-one (length-fronts-next options n)
