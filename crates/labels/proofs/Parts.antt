-- The labels of a text, one after another.
use Rattle.std.proofs.Common.{◌≡◌, ◌≢◌, ℕ, ◌+◌, ◌-◌, ◌<◌, ◌≤◌, Bool, true, false, not, ◌==◌, cond, ltb, Some, None, List, [], ◌∷◌, ◌++◌, length, refl, sym, ap, ◌∙◌, arith, subst, MatchBool}
use Rattle.std.specs.List.{flat_map}
use Rattle.std.specs.Str.{IsUtf8, bytes_eq}
use Rattle.std.proofs.Math.Logic.{∥∥₁_elim}
use Rattle.std.specs.declared.cmp.Ordering.TheVariants.{Less, Equal, Greater}
use Rattle.std.specs.declared.cmp.Ordering.{Ordering}
use Rattle.std.specs.Ordering.{nat_cmp, is_lt}
use Rattle.std.proofs.lemmas.Bool.{false≢true}
use Rattle.std.proofs.lemmas.Slice.Eq.{bytes_eq-Decides}
use Rattle.std.specs.Cmp.Lexicographic.{slice_cmp}
use Rattle.std.proofs.lemmas.Bool.Decides.{nat_tests}
use Rattle.pairs.specs.Labels.{Label}
use Rattle.labels.specs.declared.fault.LabelFault.{LabelFault}
use Rattle.labels.specs.Faults.{max_labels, label_fault, is_name}
use Rattle.labels.specs.declared.fault.LabelFault.TheVariants.{BadName, NameTooLong, EmptyValue, ValueTooLong}
use Rattle.labels.specs.Canonical.{escape, label_text, tail_text, IsLabel, IsCanonical, IsCanonicalText, EndsSet}
use Rattle.pairs.specs.Names.{NamesRise}
use Rattle.labels.proofs.Reading.{one_value}
use Rattle.labels.proofs.Unique.{NoEquals, one_name, one_label, lawful_name, regroup}

no_equals_before : (a xs : List ℕ) → NoEquals (a ++ 61 ∷ xs) → ⊥
no_equals_before [] xs h = h.0 refl
no_equals_before (b ∷ a) xs h = no_equals_before a xs h.1

-- a text without a `=` begins with no label
pub no_name : (text : List ℕ) → NoEquals text → (p : Label) (rest : List ℕ) → IsLabel p → text ≢ label_text p ++ rest
no_name text h p rest l e =
    let P : List ℕ → Type 0 = λ t. NoEquals t in
    no_equals_before p.0 (34 ∷ (flat_map escape p.1 ++ 34 ∷ rest)) (subst P (e ∙ regroup p rest) h)

-- the label that a text begins with, cut at its `=`
cut_label : (text name after : List ℕ) → text ≡ name ++ 61 ∷ after → NoEquals name → (p : Label) (rest : List ℕ) → IsLabel p → text ≡ label_text p ++ rest → (name ≡ p.0) × (after ≡ 34 ∷ (flat_map escape p.1 ++ 34 ∷ rest))
cut_label text name after e n p rest l t = one_name name p.0 after _ n (lawful_name p l) (sym e ∙ t ∙ regroup p rest)

pub no_opening : (text name after : List ℕ) → text ≡ name ++ 61 ∷ after → NoEquals name → ((more : List ℕ) → after ≢ 34 ∷ more) → (p : Label) (rest : List ℕ) → IsLabel p → text ≢ label_text p ++ rest
no_opening text name after e n q p rest l t = q (flat_map escape p.1 ++ 34 ∷ rest) (cut_label text name after e n p rest l t).1

last_test : (a b c d : Bool) (x y z w : LabelFault) → cond a (Some x) (cond b (Some y) (cond c (Some z) (cond d (Some w) None))) ≡ None → d ≡ false
last_test true b c d x y z w h = cc
last_test false true c d x y z w h = cc
last_test false false true d x y z w h = cc
last_test false false false true x y z w h = cc
last_test false false false false x y z w h = refl

at_most : (m n : ℕ) → ltb m n ≡ false → n ≤ m
at_most m n h = grind (arith, nat_tests)

short_value : (p : Label) → label_fault p ≡ None → length p.1 ≤ 2048
unfolding label_fault
short_value p h = at_most 2048 (length p.1) (last_test (not (is_name p.0)) (ltb 1024 (length p.0)) (length p.1 == 0) (ltb 2048 (length p.1)) BadName NameTooLong EmptyValue ValueTooLong h)

pub no_value : (text name after inner : List ℕ) → text ≡ name ++ 61 ∷ after → NoEquals name → after ≡ 34 ∷ inner
    → ((value rest : List ℕ) → IsUtf8 value → length value ≤ 2048 → inner ≢ flat_map escape value ++ 34 ∷ rest)
    → (p : Label) (rest : List ℕ) → IsLabel p → text ≢ label_text p ++ rest
no_value text name after inner e n q none p rest l t =
    let here : 34 ∷ inner ≡ 34 ∷ (flat_map escape p.1 ++ 34 ∷ rest) = sym q ∙ (cut_label text name after e n p rest l t).1 in
    none p.1 rest l.utf8 (short_value p l.lawful) cc

-- a name and a value with a fault
pub faulty_label : (text name after inner value more : List ℕ) (fault : LabelFault) → text ≡ name ++ 61 ∷ after → NoEquals name → after ≡ 34 ∷ inner → inner ≡ flat_map escape value ++ 34 ∷ more → Some fault ≡ label_fault (name, value)
    → (p : Label) (rest : List ℕ) → IsLabel p → text ≢ label_text p ++ rest
faulty_label text name after inner value more fault e n q v f p rest l t =
    let cut = cut_label text name after e n p rest l t in
    let here : 34 ∷ inner ≡ 34 ∷ (flat_map escape p.1 ++ 34 ∷ rest) = sym q ∙ cut.1 in
    let same : inner ≡ flat_map escape p.1 ++ 34 ∷ rest = cc in
    let values = one_value value p.1 more rest (sym v ∙ same) in
    let none : Some fault ≡ None = f ∙ ap label_fault (λ i. (cut.0 i, values.0 i)) ∙ l.lawful in
    cc

pub whole_label : (text name after inner value more : List ℕ) → text ≡ name ++ 61 ∷ after → after ≡ 34 ∷ inner → inner ≡ flat_map escape value ++ 34 ∷ more → IsUtf8 value → None ≡ label_fault (name, value)
    → (v : List ℕ) × IsLabel (name, v) × (text ≡ label_text (name, v) ++ more)
whole_label text name after inner value more e q v u f = (
  value,
  record { lawful = sym f; utf8 = u },
  e ∙ ap (λ t. name ++ 61 ∷ t) (q ∙ ap (λ t. 34 ∷ t) v) ∙ sym (regroup (name, value) more),
)

-- only the name counts
rise_of : (name value : List ℕ) (qs : List Label) → NamesRise ((name, value) ∷ qs) → NamesRise ((name, []) ∷ qs)
rise_of name value [] h = tt
rise_of name value (q ∷ qs) h = h

rise_of_any : (name value : List ℕ) (qs : List Label) → NamesRise ((name, []) ∷ qs) → NamesRise ((name, value) ∷ qs)
rise_of_any name value [] h = tt
rise_of_any name value (q ∷ qs) h = h

-- the end itself
pub ends_here : (name : List ℕ) (most : ℕ) (text : List ℕ) → text ≡ 125 ∷ [] → EndsSet name most text
ends_here name most text e = ([], omega arith, tt, tt, e)

-- no label more may follow
pub no_room : (name text : List ℕ) → text ≢ 125 ∷ [] → EndsSet name 0 text → ⊥
no_room name text n ([], few, each, rise, e) = n e
no_room name text n (q ∷ qs, few, each, rise, e) = omega (arith, few)

-- one label more, and what follows it
pub ends_after : (last name value text next after : List ℕ) (room most : ℕ) → room ≡ most + 1 → text ≢ 125 ∷ [] → text ≡ 44 ∷ 32 ∷ next → IsLabel (name, value) → next ≡ label_text (name, value) ++ after
    → EndsSet last room text → (slice_cmp nat_cmp last name ≡ Less) × EndsSet name most after
ends_after last name value text next after room most m n c l t ([], few, each, rise, e) = absurd (n e)
ends_after last name value text next after room most m n c l t (q ∷ qs, few, each, rise, e) =
    let both : 44 ∷ 32 ∷ next ≡ 44 ∷ 32 ∷ (label_text q ++ tail_text qs) = sym c ∙ e in
    let same : next ≡ label_text q ++ tail_text qs = cc in
    let found = one_label (name, value) q after (tail_text qs) l each.0 (sym t ∙ same) in
    let P : Label → Type 0 = λ p. slice_cmp nat_cmp last p.0 ≡ Less in
    let Q : Label → Type 0 = λ p. NamesRise (p ∷ qs) in (
      subst P (sym found.0) rise.0,
      (qs, omega (arith, few), each.1, rise_of name value qs (subst Q (sym found.0) rise.1), found.1),
    )

pub ends_before : (last name value text next after : List ℕ) (room most : ℕ) → room ≡ most + 1 → text ≡ 44 ∷ 32 ∷ next → IsLabel (name, value) → next ≡ label_text (name, value) ++ after → slice_cmp nat_cmp last name ≡ Less
    → EndsSet name most after → EndsSet last room text
ends_before last name value text next after room most m c l t r (qs, few, each, rise, e) = (
  (name, value) ∷ qs,
  omega (arith, few),
  (l, each),
  (r, rise_of_any name value qs rise),
  c ∙ ap (λ x. 44 ∷ 32 ∷ x) (t ∙ ap (λ x. label_text (name, value) ++ x) e),
)

not_less : (o : Ordering) → is_lt o ≡ false → o ≡ Less → ⊥
not_less o h e = false≢true (sym h ∙ ap is_lt e)

less : (o : Ordering) → is_lt o ≡ true → o ≡ Less
less Less h = refl
less Equal h = cc
less Greater h = cc

not_end : (text : List ℕ) → false ≡ bytes_eq text (125 ∷ []) → text ≢ 125 ∷ []
not_end text h e = false≢true (h ∙ (bytes_eq-Decides text (125 ∷ [])).1 e)

-- a name that is not above the last one
pub stops_at : (last name value text next after : List ℕ) (count : ℕ) → count < max_labels → false ≡ bytes_eq text (125 ∷ []) → text ≡ 44 ∷ 32 ∷ next → IsLabel (name, value) → next ≡ label_text (name, value) ++ after
    → is_lt (slice_cmp nat_cmp last name) ≡ false → EndsSet last (max_labels - count) text → ⊥
stops_at last name value text next after count m n c l t g h =
    not_less (slice_cmp nat_cmp last name) g (ends_after last name value text next after (max_labels - count) (max_labels - (count + 1)) (omega arith) (not_end text n) c l t h).0

-- one that is
pub goes_on : (last name value text next after : List ℕ) (count : ℕ) → count < max_labels → false ≡ bytes_eq text (125 ∷ []) → text ≡ 44 ∷ 32 ∷ next → IsLabel (name, value) → next ≡ label_text (name, value) ++ after
    → is_lt (slice_cmp nat_cmp last name) ≡ true → (EndsSet name (max_labels - (count + 1)) after → EndsSet last (max_labels - count) text) × (EndsSet last (max_labels - count) text → EndsSet name (max_labels - (count + 1)) after)
goes_on last name value text next after count m n c l t g = (
  ends_before last name value text next after (max_labels - count) (max_labels - (count + 1)) (omega arith) c l t (less (slice_cmp nat_cmp last name) g),
  λ h. (ends_after last name value text next after (max_labels - count) (max_labels - (count + 1)) (omega arith) (not_end text n) c l t h).1,
)

-- the text after `{`, from its first label on
pub canonical_by : (text next name value after : List ℕ) (r : Bool) → text ≡ 123 ∷ next → IsLabel (name, value) → next ≡ label_text (name, value) ++ after
    → MatchBool r (EndsSet name (max_labels - 1) after) (¬ (EndsSet name (max_labels - 1) after)) → MatchBool r (IsCanonicalText text) ((ps : List Label) → ¬ (IsCanonical text ps))
canonical_by text next name value after true b l t (qs, few, each, rise, e) =
    ∣ (
      (name, value) ∷ qs,
      record {
        some = omega arith;
        few = omega (arith, few);
        each = (l, each);
        rise = rise_of_any name value qs rise;
        printed = b ∙ ap (λ x. 123 ∷ x) (t ∙ ap (λ x. label_text (name, value) ++ x) e);
      },
    ) ∣₁
canonical_by text next name value after false b l t n = λ ps h. by ps h
  where
    by : (ps : List Label) → IsCanonical text ps → ⊥
    by [] h = omega (arith, h.some)
    by (p ∷ ps) h =
        let both : 123 ∷ next ≡ 123 ∷ (label_text p ++ tail_text ps) = sym b ∙ h.printed in
        let same : next ≡ label_text p ++ tail_text ps = cc in
        let found = one_label (name, value) p after (tail_text ps) l h.each.0 (sym t ∙ same) in
        let Q : Label → Type 0 = λ q. NamesRise (q ∷ ps) in
        n (ps, omega (arith, h.few), h.each.1, rise_of name value ps (subst Q (sym found.0) h.rise), found.1)

-- a canonical text has labels
pub some_labels : (text : List ℕ) → IsCanonicalText text → ((ps : List Label) → ¬ (IsCanonical text ps)) → ⊥
some_labels text h n = ∥∥₁_elim h (λ x y. absurd x) (λ p. n p.0 p.1)
