-- How many contents there are.
use Rattle.std.proofs.Common.{◌≡◌, ◌≤◌, ◌<◌, ℕ, zero, suc, ◌+◌, ◌-◌, ◌*◌, ◌^◌, List, [], ◌∷◌, ◌++◌, length, get_or, Bool, true, false, cond, refl, ap, sym, ◌∙◌, arith, add-one, add-zero, add-suc, length-append, Option, Some, None, IfSome}
use Rattle.std.specs.Option.{SomeIff}
use Rattle.memory_disk.specs.Beginnings.{open_bytes, each_longer, all_beginnings, of_lengths}
use Rattle.memory_disk.proofs.BeginningLemmas.{length-fronts-suc, length-fronts-next}

-- at a length from low on, its beginnings come after the shorter ones
pub of_lengths-suc : (options : ℕ → List ℕ) (low i : ℕ) → low ≤ i → of_lengths options low (i + 1 - low) ≡ of_lengths options low (i - low) ++ all_beginnings options i
of_lengths-suc options low i le =
    let k : i + 1 - low ≡ suc (i - low) = omega arith in
    let back : low + (i - low) ≡ i = omega arith in
    ap (λ (n : ℕ). of_lengths options low n) k ∙ ap (λ (n : ℕ). of_lengths options low (i - low) ++ all_beginnings options n) back

pub of_lengths-more : (options : ℕ → List ℕ) (low i : ℕ) (found found' fronts : List (List ℕ)) → low ≤ i → found ≡ of_lengths options low (i - low) → fronts ≡ all_beginnings options i
    → found' ≡ found ++ fronts → found' ≡ of_lengths options low (i + 1 - low)
of_lengths-more options low i found found' fronts le was is e =
    e ∙ ap (λ (xs : List (List ℕ)). xs ++ fronts) was ∙ ap (λ (xs : List (List ℕ)). of_lengths options low (i - low) ++ xs) is ∙ sym (of_lengths-suc options low i le)

-- before there is none
pub of_lengths-before : (options : ℕ → List ℕ) (low i : ℕ) → i < low → of_lengths options low (i + 1 - low) ≡ of_lengths options low (i - low)
of_lengths-before options low i less = let k : i + 1 - low ≡ i - low = omega arith in ap (λ (n : ℕ). of_lengths options low n) k

pub of_lengths-last : (options : ℕ → List ℕ) (low n : ℕ) → low ≤ n → of_lengths options low (n - low + 1) ≡ of_lengths options low (n - low) ++ all_beginnings options n
of_lengths-last options low n le =
    let k : n - low + 1 ≡ n + 1 - low = omega arith in ap (λ (m : ℕ). of_lengths options low m) k ∙ of_lengths-suc options low n le

lengths-grow : (options : ℕ → List ℕ) (low k more : ℕ) → length (of_lengths options low k) ≤ length (of_lengths options low (k + more))
lengths-grow options low k zero = rw add-zero (omega arith)
lengths-grow options low k (suc more) =
    let e : length (of_lengths options low (k + suc more)) ≡ length (of_lengths options low (k + more)) + length (all_beginnings options (low + (k + more)))
    = rw add-suc (length-append (of_lengths options low (k + more)) (all_beginnings options (low + (k + more)))) in
    omega (arith, e, lengths-grow options low k more)

at-least : (a b c d : ℕ) → a ≤ b → 1 ≤ c → d ≡ b * c → a ≤ d
at-least a b zero d ab one e = absurd (omega arith)
at-least a b (suc c) d ab one e = grind arith

fronts-grow : (options : ℕ → List ℕ) → ((i : ℕ) → 1 ≤ length (options i)) → (i more : ℕ) → length (all_beginnings options i) ≤ length (all_beginnings options (i + more))
fronts-grow options some i zero = rw add-zero (omega arith)
fronts-grow options some i (suc more) =
    let e : length (all_beginnings options (i + suc more)) ≡ length (all_beginnings options (i + more)) * length (options (i + more))
    = rw add-suc (length-fronts-next options (i + more)) in
    at-least (length (all_beginnings options i)) (length (all_beginnings options (i + more))) (length (options (i + more))) _ (fronts-grow options some i more) (some (i + more)) e

-- where the contents so far are too many, all are
pub too-many-so-far : (options : ℕ → List ℕ) (low i n all front : ℕ) → low ≤ i → i ≤ n → all ≡ length (of_lengths options low (i - low)) → front ≡ length (all_beginnings options i)
    → 2 ^ 64 ≤ all + front → 2 ^ 64 ≤ length (of_lengths options low (n - low + 1))
too-many-so-far options low i n all front low_i i_n e f many =
    let these : length (of_lengths options low (i + 1 - low)) ≡ all + front
    = ap length (of_lengths-suc options low i low_i) ∙ length-append (of_lengths options low (i - low)) (all_beginnings options i) ∙ omega arith in
    let k : n - low + 1 ≡ (i + 1 - low) + (n - i) = omega arith in
    let more : length (of_lengths options low (i + 1 - low)) ≤ length (of_lengths options low ((i + 1 - low) + (n - i)))
    = lengths-grow options low (i + 1 - low) (n - i) in
    rw k (omega arith)

open-some : (mask : List Bool) (now values : List ℕ) → 1 ≤ length values → (i : ℕ) → 1 ≤ length (open_bytes mask now values i)
open-some mask now values some i = elim (get_or mask i false) as (λ b. 1 ≤ length (cond b values (get_or now i 0 ∷ []))) [ true ↦ some | false ↦ omega arith ]

-- how many may stand at a place
pub length-open : (mask : List Bool) (now values : List ℕ) (i : ℕ) (b : Bool) → get_or mask i false ≡ b → length (open_bytes mask now values i) ≡ cond b (length values) 1
length-open mask now values i true e = rw e refl
length-open mask now values i false e = rw e refl

positive : (a b : ℕ) → 2 ^ 64 ≤ a * b → 1 ≤ b
positive a zero many = absurd (grind arith)
positive a (suc b) many = omega arith

-- where the beginnings are too many, so are all contents
pub too-many-fronts : (mask : List Bool) (now values : List ℕ) (low i n front : ℕ) → low ≤ n → i < n → front ≡ length (all_beginnings (open_bytes mask now values) i)
    → get_or mask i false ≡ true → 2 ^ 64 ≤ front * length values → 2 ^ 64 ≤ length (of_lengths (open_bytes mask now values) low (n - low + 1))
too-many-fronts mask now values low i n front low_n i_n e open_ many =
    let options : ℕ → List ℕ = open_bytes mask now values in
    let next : length (all_beginnings options (i + 1)) ≡ front * length values
    = length-fronts-suc options i ∙ ap (λ (k : ℕ). k * length (options i)) (sym e) ∙ ap (λ (k : ℕ). front * k) (length-open mask now values i true open_) in
    let some : 1 ≤ length values = positive front (length values) many in
    let k : i + 1 + (n - (i + 1)) ≡ n = omega arith in
    let grown : length (all_beginnings options (i + 1)) ≤ length (all_beginnings options n)
    = rw k at (fronts-grow options (open-some mask now values some) (i + 1) (n - (i + 1))) in
    let all : length (of_lengths options low (n - low + 1)) ≡ length (of_lengths options low (n - low)) + length (all_beginnings options n)
    = ap length (of_lengths-last options low n low_n) ∙ length-append (of_lengths options low (n - low)) (all_beginnings options n) in
    omega (arith, next, grown, all)

-- the number of beginnings, one place on
pub counted-fronts : (mask : List Bool) (now values : List ℕ) (i front next : ℕ) (b : Bool) → front ≡ length (all_beginnings (open_bytes mask now values) i)
    → get_or mask i false ≡ b → next ≡ front * cond b (length values) 1 → next ≡ length (all_beginnings (open_bytes mask now values) (i + 1))
counted-fronts mask now values i front next b e is en =
    en ∙ ap (λ (k : ℕ). k * cond b (length values) 1) e
    ∙ ap (λ (k : ℕ). length (all_beginnings (open_bytes mask now values) i) * k) (sym (length-open mask now values i b is))
    ∙ sym (length-fronts-suc (open_bytes mask now values) i)

pub counted-all : (options : ℕ → List ℕ) (low i all front : ℕ) → low ≤ i → all ≡ length (of_lengths options low (i - low)) → front ≡ length (all_beginnings options i)
    → all + front ≡ length (of_lengths options low (i + 1 - low))
counted-all options low i all front le e f =
    sym (ap length (of_lengths-suc options low i le) ∙ length-append (of_lengths options low (i - low)) (all_beginnings options i) ∙ omega arith)

-- what a checked sum answers of the whole number
pub some-total : (r : Option ℕ) (x : ℕ) (total : List ℕ → ℕ) → SomeIff r (x < 2 ^ 64) x → ((now : List ℕ) → x ≡ total now)
    → IfSome r (λ n. (now : List ℕ) → n ≡ total now)
some-total None x total iff e = tt
some-total (Some n) x total iff e = λ now. iff.1 ∙ e now

-- the beginnings, one place on
pub next-fronts : (options : ℕ → List ℕ) (i : ℕ) (cur next : List (List ℕ)) → cur ≡ all_beginnings options i
    → next ≡ each_longer cur (options i) → next ≡ all_beginnings options (i + 1)
next-fronts options i cur next e is = rw add-one (is ∙ ap (λ (xs : List (List ℕ)). each_longer xs (options i)) e)
