-- A text is that of one list of labels.
use Rattle.std.proofs.Common.{◌≡◌, ◌≢◌, ℕ, Bool, true, false, ◌&&◌, ◌||◌, not, cond, Option, Some, None, List, [], ◌∷◌, ◌++◌, refl, sym, ap, ◌∙◌, arith, append_assoc}
use Rattle.std.specs.List.{flat_map, AllByRecursion, list_all}
use Rattle.std.specs.Int.{is_in_range}
use Rattle.pairs.specs.Labels.{Label}
use Rattle.labels.specs.declared.fault.LabelFault.{LabelFault}
use Rattle.labels.specs.Faults.{label_fault, is_name, continues_name, begins_name}
use Rattle.labels.specs.Canonical.{escape, label_text, tail_text, set_text, IsLabel, IsCanonical}
use Rattle.labels.proofs.Reading.{one_value}

or_more : (d r s e : Bool) → ((r || s) || e) ≡ true → (((d || r) || s) || e) ≡ true
or_more true r s e h = refl
or_more false r s e h = h

both_true : (a b : Bool) → (a && b) ≡ true → (a ≡ true) × (b ≡ true)
both_true true b h = (refl, h)
both_true false b h = cc

begins_continues : (b : ℕ) → begins_name b ≡ true → continues_name b ≡ true
begins_continues b h = or_more (is_in_range 48 57 b) _ _ _ h

is_continued : (a : List ℕ) → is_name a ≡ true → list_all continues_name a ≡ true
is_continued [] h = refl
is_continued (b ∷ bs) h =
    let parts = both_true (begins_name b) (list_all continues_name bs) h in
    ap (λ t. t && list_all continues_name bs) (begins_continues b parts.0) ∙ parts.1

passed : (b : Bool) (x : LabelFault) (o : Option LabelFault) → cond (not b) (Some x) o ≡ None → b ≡ true
passed true x o h = refl
passed false x o h = cc

named : (p : Label) → label_fault p ≡ None → is_name p.0 ≡ true
unfolding label_fault
named p h = passed (is_name p.0) _ _ h

-- no byte is a `=`
abbrev pub NoEquals : List ℕ → Type 0
NoEquals name = AllByRecursion (λ b. b ≢ 61) name

continues_differs : (c : ℕ) → continues_name c ≡ true → c ≢ 61
continues_differs c h e =
    let k : continues_name 61 ≡ true = rw e at h in
    cc

continued_no_equals : (a : List ℕ) → list_all continues_name a ≡ true → NoEquals a
continued_no_equals [] h = tt
continued_no_equals (b ∷ bs) h =
    let parts = both_true (continues_name b) (list_all continues_name bs) h in
    (continues_differs b parts.0, continued_no_equals bs parts.1)

-- a lawful name has the bytes of one
pub lawful_name : (p : Label) → IsLabel p → NoEquals p.0
lawful_name p h = continued_no_equals p.0 (is_continued p.0 (named p h.lawful))

-- two names before a `=`
pub one_name : (a b xs ys : List ℕ) → NoEquals a → NoEquals b → a ++ 61 ∷ xs ≡ b ++ 61 ∷ ys → (a ≡ b) × (xs ≡ ys)
one_name [] [] xs ys g h e = (refl, cc)
one_name [] (c ∷ b) xs ys g h e = (let k : c ≡ 61 = cc in absurd (h.0 k))
one_name (c ∷ a) [] xs ys g h e = (let k : c ≡ 61 = cc in absurd (g.0 k))
one_name (c ∷ a) (d ∷ b) xs ys g h e =
    let first : c ≡ d = cc in
    let more : a ++ 61 ∷ xs ≡ b ++ 61 ∷ ys = cc in
    let rest = one_name a b xs ys g.1 h.1 more in
    (λ i. first i ∷ rest.0 i, rest.1)

pub regroup : (p : Label) (xs : List ℕ) → label_text p ++ xs ≡ p.0 ++ 61 ∷ 34 ∷ (flat_map escape p.1 ++ 34 ∷ xs)
regroup p xs = simp append_assoc

-- two labels before whatever follows
pub one_label : (p q : Label) (xs ys : List ℕ) → IsLabel p → IsLabel q → label_text p ++ xs ≡ label_text q ++ ys → (p ≡ q) × (xs ≡ ys)
one_label p q xs ys g h e =
    let names = one_name p.0 q.0 _ _ (lawful_name p g) (lawful_name q h) (sym (regroup p xs) ∙ e ∙ regroup q ys) in
    let values = one_value p.1 q.1 xs ys (let f = names.1 in cc) in
    (λ i. (names.0 i, values.0 i), values.1)

one_tail : (ps qs : List Label) → AllByRecursion IsLabel ps → AllByRecursion IsLabel qs → tail_text ps ≡ tail_text qs → ps ≡ qs
one_tail [] [] g h e = refl
one_tail [] (q ∷ qs) g h e = cc
one_tail (p ∷ ps) [] g h e = cc
one_tail (p ∷ ps) (q ∷ qs) g h e =
    let both = one_label p q (tail_text ps) (tail_text qs) g.0 h.0 cc in
    let rest : ps ≡ qs = one_tail ps qs g.1 h.1 both.1 in
    λ i. both.0 i ∷ rest i

pub one_set : (t : List ℕ) (ps qs : List Label) → IsCanonical t ps → IsCanonical t qs → ps ≡ qs
one_set t [] qs g h = absurd (omega (arith, g.some))
one_set t (p ∷ ps) [] g h = absurd (omega (arith, h.some))
one_set t (p ∷ ps) (q ∷ qs) g h =
    let both = one_label p q (tail_text ps) (tail_text qs) g.each.0 h.each.0 (let k : set_text (p ∷ ps) ≡ set_text (q ∷ qs) = sym g.printed ∙ h.printed in cc) in
    let rest : ps ≡ qs = one_tail ps qs g.each.1 h.each.1 both.1 in
    λ i. both.0 i ∷ rest i
