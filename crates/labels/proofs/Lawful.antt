-- What labels without a fault are.
use Rattle.std.proofs.Common.{◌≡◌, ℕ, ◌+◌, ◌<◌, ◌≤◌, true, false, Option, Some, None, List, [], ◌∷◌, length, get_or, map, refl, sym, ap, ◌∙◌, arith, String, string_bytes}
use Rattle.std.specs.declared.alloc.Global.{Global}
use Rattle.std.specs.List.{AllByRecursion, AllAdjacentBelow}
use Rattle.std.specs.Ordering.{nat_cmp, is_lt}
use Rattle.std.specs.Cmp.Lexicographic.{slice_cmp}
use Rattle.std.proofs.lemmas.List.{length-map}
use Rattle.std.specs.List.Sorted.{IsPermutation, IsSorted}
use Rattle.std.specs.Option.{option_or}
use Rattle.std.proofs.lemmas.Str.{IsUtf8-string_bytes}
use Rattle.std.proofs.lemmas.List.Elements.{recursion_from_All, All-from_recursion}
use Rattle.std.proofs.lemmas.List.Sorted.{All-permutation, IsPermutation-map, length_permutation}
use Rattle.std.proofs.lemmas.Bool.Decides.{nat_tests}
use Rattle.pairs.specs.Labels.{Label, label_of}
use Rattle.labels.specs.declared.fault.LabelFault.{LabelFault}
use Rattle.labels.specs.declared.fault.LabelFault.TheVariants.{NameTwice}
use Rattle.labels.specs.Faults.{max_labels, label_fault, each_fault, first_fault}
use Rattle.pairs.specs.Names.{repeats_name}
use Rattle.labels.specs.Canonical.{IsLabel, IsTextOf, set_text}
use Rattle.pairs.specs.Names.{NamesRise}
use Rattle.pairs.proofs.Order.{pair_cmp, repeats_permuted, rise_once, rise_from_adjacent, stuck_repeats}

pub no_option : (o p : Option LabelFault) → option_or o p ≡ None → (o ≡ None) × (p ≡ None)
no_option None p h = (refl, h)
no_option (Some e) p h = cc

-- no label has a fault
pub each_lawful : (ps : List Label) → each_fault ps ≡ None → AllByRecursion (λ (p : Label). label_fault p ≡ None) ps
each_lawful [] h = tt
each_lawful (p ∷ ps) h = let both = no_option (label_fault p) (each_fault ps) h in (both.0, each_lawful ps both.1)

-- the same in another order
lawful_permuted : (ps qs : List Label) → IsPermutation ps qs → each_fault ps ≡ None → AllByRecursion (λ (p : Label). label_fault p ≡ None) qs
lawful_permuted ps qs h e =
    let P : Label → Type 0 = λ p. label_fault p ≡ None in
    recursion_from_All P qs (All-permutation P ps qs h (All-from_recursion P ps (each_lawful ps e)))

-- labels of strings are texts
pub are_labels : (xs : List (String Global × String Global)) → AllByRecursion (λ (p : Label). label_fault p ≡ None) (map label_of xs) → AllByRecursion IsLabel (map label_of xs)
are_labels [] h = tt
are_labels (x ∷ xs) h = (record { lawful = h.0; utf8 = IsUtf8-string_bytes x.1 }, are_labels xs h.1)

-- a number of labels that a stream may have, none with a fault
pub record AreSound (ps : List Label) : Type 0 where
  pub some : 1 ≤ length ps
  pub few : length ps ≤ max_labels
  pub each : each_fault ps ≡ None

pub no_fault : (ps : List Label) → AreSound ps → repeats_name ps ≡ false → first_fault ps ≡ None
unfolding first_fault
no_fault ps s r = grind (arith, nat_tests, s.some, s.few, s.each, r)

pub twice_fault : (ps : List Label) → AreSound ps → repeats_name ps ≡ true → first_fault ps ≡ Some NameTwice
unfolding first_fault
twice_fault ps s r = grind (arith, nat_tests, s.some, s.few, s.each, r)

-- what the early tests leave
abbrev pub PassesEarly : List (String Global × String Global) → Type 0
PassesEarly xs = (1 ≤ length xs) × (length xs ≤ max_labels) × (each_fault (map label_of xs) ≡ None)

sound_from : (xs ds : List (String Global × String Global)) → ds ≡ xs → PassesEarly ds → AreSound (map label_of xs)
sound_from xs ds e h =
    let long : length (map label_of xs) ≡ length ds = length-map xs label_of ∙ ap length (sym e) in
    record { some = omega (arith, long, h.0); few = omega (arith, long, h.1); each = ap (λ zs. each_fault (map label_of zs)) (sym e) ∙ h.2 }

-- sorted labels whose names don't rise
pub twice_from : (xs ds ys es : List (String Global × String Global)) → ds ≡ xs → PassesEarly ds → IsPermutation xs ys → IsSorted pair_cmp ys → es ≡ ys
    → ((k : ℕ) × (k + 1 < length es) × ((d : String Global × String Global) → false ≡ is_lt (slice_cmp nat_cmp (string_bytes (get_or es k d).0) (string_bytes (get_or es (k + 1) d).0))))
    → first_fault (map label_of xs) ≡ Some NameTwice
twice_from xs ds ys es e h m s f stuck =
    let at : (k : ℕ) × (k + 1 < length ys) × ((d : String Global × String Global) → false ≡ is_lt (slice_cmp nat_cmp (string_bytes (get_or ys k d).0) (string_bytes (get_or ys (k + 1) d).0))) = rw f at stuck in
    twice_fault _ (sound_from xs ds e h) (repeats_permuted _ _ (IsPermutation-map label_of xs ys m) ∙ stuck_repeats ys s at.0 at.1 at.2)

-- sorted labels whose names rise, and their text
pub canonical_from : (xs ds ys es fs : List (String Global × String Global)) (text : List ℕ) → ds ≡ xs → PassesEarly ds → IsPermutation xs ys → es ≡ ys
    → AllAdjacentBelow (λ (x y : String Global × String Global). true ≡ is_lt (slice_cmp nat_cmp (string_bytes x.0) (string_bytes y.0))) es (length es)
    → fs ≡ ys → text ≡ set_text (map label_of fs) → (first_fault (map label_of xs) ≡ None) × IsTextOf text (map label_of xs)
canonical_from xs ds ys es fs text e h m f adjacent g t =
    let s : AreSound (map label_of xs) = sound_from xs ds e h in
    let r : NamesRise (map label_of ys) = rise_from_adjacent ys (rw f at adjacent) in
    let moved : IsPermutation (map label_of xs) (map label_of ys) = IsPermutation-map label_of xs ys m in
    let long : length (map label_of ys) ≡ length (map label_of xs) = length_permutation _ _ moved in (
      no_fault _ s (repeats_permuted _ _ moved ∙ rise_once _ r),
      (
        map label_of ys,
        moved,
        record {
          some = omega (arith, long, s.some);
          few = omega (arith, long, s.few);
          each = are_labels ys (lawful_permuted _ _ moved s.each);
          rise = r;
          printed = t ∙ ap (λ zs. set_text (map label_of zs)) g;
        },
      ),
    )
