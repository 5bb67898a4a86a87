-- Labels without a fault have a canonical text, and labels that have one are without a fault.
use Rattle.std.proofs.Common.{◌≡◌, ℕ, ◌≤◌, Bool, true, false, ◌||◌, nat_lt, cond, ◌==◌, Option, Some, None, List, [], ◌∷◌, length, refl, ap, ◌∙◌, arith}
use Rattle.std.specs.declared.cmp.Ordering.{Ordering}
use Rattle.std.specs.declared.cmp.Ordering.TheVariants.{Less, Equal, Greater}
use Rattle.std.specs.Ordering.{nat_cmp, ordering_reverse}
use Rattle.std.specs.Cmp.Lexicographic.{slice_cmp}
use Rattle.std.specs.List.{AllByRecursion, list_any}
use Rattle.std.specs.List.Sorted.{IsPermutation}
use Rattle.std.specs.Option.{option_or}
use Rattle.std.specs.Str.{bytes_eq}
use Rattle.std.proofs.lemmas.Bool.Decides.{nat_tests}
use Rattle.std.proofs.lemmas.Cmp.{nat_list_cmp_total}
use Rattle.std.proofs.lemmas.Map.Lookups.{exact_bytes}
use Rattle.std.proofs.lemmas.List.Elements.{recursion_from_All, All-from_recursion}
use Rattle.std.proofs.lemmas.List.Sorted.{All-permutation, IsPermutation-refl, IsPermutation-sym, IsPermutation-trans, IsPermutation-cons, IsPermutation-middle, length_permutation, sum_by-IsPermutation}
use Rattle.pairs.specs.Labels.{Label}
use Rattle.labels.specs.declared.fault.LabelFault.{LabelFault}
use Rattle.labels.specs.Faults.{max_labels, label_fault, each_fault, first_fault}
use Rattle.pairs.specs.Names.{times_named, repeats_name}
use Rattle.labels.specs.Canonical.{AreTexts, IsLabel, IsTextOf, set_text}
use Rattle.pairs.specs.Names.{NamesRise}
use Rattle.labels.proofs.Lawful.{AreSound, no_fault, no_option}
use Rattle.pairs.proofs.Order.{Above, AreOnce, rise_above, rise_tail, rise_once, repeats_permuted, named_tail, named_first}

-- labels with one more, in the order of their names
record Placed (p : Label) (qs : List Label) : Type 0 where
  all : List Label
  moved : IsPermutation (p ∷ qs) all
  rise : NamesRise all
  above : (name : List ℕ) → Above name (p ∷ qs) → Above name all

rise_from : (q : Label) (qs : List Label) → Above q.0 qs → NamesRise qs → NamesRise (q ∷ qs)
rise_from q [] a r = tt
rise_from q (p ∷ ps) a r = (a.0, r)

place_by : (p q : Label) (qs : List Label) (o : Ordering) → slice_cmp nat_cmp p.0 q.0 ≡ o → NamesRise (q ∷ qs) → times_named p.0 (q ∷ qs) ≡ 0 → Placed p qs → Placed p (q ∷ qs)
place_by p q qs Less e r t rest = record { all = p ∷ q ∷ qs; moved = IsPermutation-refl (p ∷ q ∷ qs); rise = (e, r); above = λ name a. a }
place_by p q qs Equal e r t rest = absurd (omega (arith, t, named_first p.0 q qs (exact_bytes p.0 q.0 e)))
place_by p q qs Greater e r t rest =
    let below : slice_cmp nat_cmp q.0 p.0 ≡ Less = nat_list_cmp_total.antisymm q.0 p.0 ∙ ap ordering_reverse e in
    record {
      all = q ∷ rest.all;
      moved = IsPermutation-trans _ _ _ (IsPermutation-middle (p ∷ []) q qs) (IsPermutation-cons q _ _ rest.moved);
      rise = rise_from q rest.all (rest.above q.0 (below, rise_above q qs r)) rest.rise;
      above = λ name a. (a.1.0, rest.above name (a.0, a.1.1));
    }

place : (p : Label) (qs : List Label) → NamesRise qs → times_named p.0 qs ≡ 0 → Placed p qs
place p [] r t = record { all = p ∷ []; moved = IsPermutation-refl (p ∷ []); rise = tt; above = λ name a. a }
place p (q ∷ qs) r t =
    place_by p q qs (slice_cmp nat_cmp p.0 q.0) refl r t (place p qs (rise_tail q qs r) (omega (arith, t, named_tail p.0 q qs)))

once_less : (p : Label) (ps qs : List Label) → AreOnce (p ∷ ps) qs → AreOnce ps qs
once_less p ps [] h = tt
once_less p ps (q ∷ qs) h = (omega (arith, h.0, named_tail q.0 p ps), once_less p ps qs h.1)

-- labels of different names, in the order of these
arranged : (ps : List Label) → AreOnce ps ps → (qs : List Label) × IsPermutation ps qs × NamesRise qs
arranged [] h = ([], IsPermutation-refl [], tt)
arranged (p ∷ ps) h =
    let rest = arranged ps (once_less p ps ps h.1) in
    let never : times_named p.0 rest.0 ≡ 0 = omega (arith, h.0, named_first p.0 p ps refl, sum_by-IsPermutation (λ (q : Label). cond (bytes_eq p.0 q.0) 1 0) ps rest.0 rest.1) in
    let one = place p rest.0 rest.2 never in
    (one.all, IsPermutation-trans _ _ _ (IsPermutation-cons p ps rest.0 rest.1) one.moved, one.rise)

both_false : (a b : Bool) → (a || b) ≡ false → (a ≡ false) × (b ≡ false)
both_false true b h = cc
both_false false b h = (refl, h)

at_most_one : (n : ℕ) → nat_lt 1 n ≡ false → n ≤ 1
at_most_one n h = grind (arith, nat_tests)

once_from : (ps qs : List Label) → list_any (λ q. nat_lt 1 (times_named q.0 ps)) qs ≡ false → AreOnce ps qs
once_from ps [] h = tt
once_from ps (q ∷ qs) h =
    let both = both_false (nat_lt 1 (times_named q.0 ps)) (list_any (λ q. nat_lt 1 (times_named q.0 ps)) qs) h in
    (at_most_one _ both.0, once_from ps qs both.1)

skipped : (b : Bool) (x : LabelFault) (o : Option LabelFault) → cond b (Some x) o ≡ None → (b ≡ false) × (o ≡ None)
skipped true x o h = cc
skipped false x o h = (refl, h)

not_none : (n : ℕ) → (n == 0) ≡ false → 1 ≤ n
not_none n h = grind (arith, nat_tests)

not_many : (most n : ℕ) → nat_lt most n ≡ false → n ≤ most
not_many most n h = grind (arith, nat_tests)

-- what labels without a fault are
faultless : (ps : List Label) → first_fault ps ≡ None → AreSound ps × (repeats_name ps ≡ false)
unfolding first_fault
faultless ps h =
    let some = skipped (length ps == 0) _ _ h in
    let few = skipped (nat_lt max_labels (length ps)) _ _ some.1 in
    let each = no_option (each_fault ps) _ few.1 in
    let once = skipped (repeats_name ps) _ _ each.1 in
    (record { some = not_none _ some.0; few = not_many max_labels _ few.0; each = each.0 }, once.0)

labels_from : (ps : List Label) → AreTexts ps → each_fault ps ≡ None → AllByRecursion IsLabel ps
labels_from [] t h = tt
labels_from (p ∷ ps) t h =
    let both = no_option (label_fault p) (each_fault ps) h in
    (record { lawful = both.0; utf8 = t.0 }, labels_from ps t.1 both.1)

pub text_from : (pairs : List Label) → AreTexts pairs → first_fault pairs ≡ None → (text : List ℕ) × IsTextOf text pairs
text_from pairs texts h =
    let (sound, once) = faultless pairs h in
    let (ps, moved, rise) = arranged pairs (once_from pairs pairs once) in
    let long : length ps ≡ length pairs = length_permutation _ _ moved in
    let each = recursion_from_All IsLabel ps (All-permutation IsLabel pairs ps moved (All-from_recursion IsLabel pairs (labels_from pairs texts sound.each))) in (
      set_text ps,
      (ps, moved, record { some = omega (arith, long, sound.some); few = omega (arith, long, sound.few); each = each; rise = rise; printed = refl }),
    )

none_has_fault : (ps : List Label) → AllByRecursion IsLabel ps → each_fault ps ≡ None
none_has_fault [] h = refl
none_has_fault (p ∷ ps) h = ap (λ o. option_or o (each_fault ps)) h.0.lawful ∙ none_has_fault ps h.1

are_texts : (ps : List Label) → AllByRecursion IsLabel ps → AreTexts ps
are_texts [] h = tt
are_texts (p ∷ ps) h = (h.0.utf8, are_texts ps h.1)

pub lawful_from : (text : List ℕ) (pairs : List Label) → IsTextOf text pairs → AreTexts pairs × (first_fault pairs ≡ None)
lawful_from text pairs h =
    let (ps, moved, canonical) = h in
    let long : length ps ≡ length pairs = length_permutation _ _ moved in
    let each = recursion_from_All IsLabel pairs (All-permutation IsLabel ps pairs (IsPermutation-sym pairs ps moved) (All-from_recursion IsLabel ps canonical.each)) in
    let sound : AreSound pairs = record { some = omega (arith, long, canonical.some); few = omega (arith, long, canonical.few); each = none_has_fault pairs each } in
    (are_texts pairs each, no_fault pairs sound (repeats_permuted pairs ps moved ∙ rise_once ps canonical.rise))
