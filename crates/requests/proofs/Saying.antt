-- A text that is added behind another.
use Rattle.std.proofs.Common.{◌≡◌, ◌≢◌, ◌⊎◌, ◌<◌, ◌≤◌, ℕ, List, [], ◌++◌, length, take, drop, Some, Result, Ok, Err, OnOk, OnErr, IfErr, refl, sym, ap, ◌∙◌, subst, append-nil, arith, inl, inr}
use Rattle.std.proofs.lemmas.List.{drop-append-le, length-drop, length-append}
use Rattle.std.proofs.Math.Seq.{take-length}
use Rattle.requests.specs.Writing.{WritesBeginning}
use Rattle.requests.specs.declared.fault.ServeFault.{ServeFault}
use Rattle.requests.specs.declared.fault.ServeFault.TheVariants.{Write}

module _ (gone : ℕ) (old new text last : List ℕ) (within : gone ≤ length old) (none : last ≡ []) where
  alone : (all : List ℕ) → drop gone all ++ last ≡ drop gone all
  alone all = ap (λ l. drop gone all ++ l) none ∙ append-nil (drop gone all)

  -- all of it was added, or nothing
  pub added : (r : Result (Unit {0}) ServeFault) → OnOk r (new ≡ old ++ text) → OnErr r (new ≡ old) → IfErr r (λ e. e ≡ Write) → WritesBeginning (Some (drop gone old ++ last)) (Some (drop gone new ++ last)) text r
  added (Ok u) ok err cause = (length text, alone new ∙ ap (drop gone) ok ∙ drop-append-le gone old text within ∙ ap (λ t. drop gone old ++ t) (sym (take-length text)) ∙ ap (λ l. l ++ take (length text) text) (sym (alone old)), refl)
  added (Err fault) ok err cause =
      subst (λ e. WritesBeginning (Some (drop gone old ++ last)) (Some (drop gone new ++ last)) text (Err e)) (sym cause) (0, ap (λ l. drop gone l ++ last) err ∙ sym (append-nil (drop gone old ++ last)), omega arith)

-- what waits to be sent is nothing only where nothing is there
pub waits : (gone : ℕ) (all last : List ℕ) → gone < length all → drop gone all ++ last ≢ []
waits gone all last within none = omega (arith, within, length-append (drop gone all) last, length-drop gone all, ap length none)

pub told_so : (result : Result (Unit {0}) ServeFault) (P : Type 0) → IfErr result (λ e. e ≡ Write) → P → IfErr result (λ e. (e ≡ Write) × P)
told_so (Ok u) P cause p = tt
told_so (Err fault) P cause p = (cause, p)

pub behind : (gone : ℕ) (old last : List ℕ) → (old ≡ []) ⊎ ((gone < length old) × (last ≡ [])) → old ≢ [] → (gone < length old) × (last ≡ [])
behind gone old last (inl none) some = absurd (some none)
behind gone old last (inr is) some = is
