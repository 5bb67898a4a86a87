use Rattle.std.proofs.Common.{◌≡◌, ◌≢◌, refl, ℕ, List, Result, Ok, Err, sym, subst, ◌∙◌}
use Rattle.std.proofs.lemmas.Result.{err_from_is_err_and}
use Rattle.labels.specs.declared.fault.LabelFault.{LabelFault}
use Rattle.labels.specs.declared.fault.LabelFault.TheVariants.{Memory, NotCanonical}
use Rattle.labels.specs.Canonical.{IsCanonicalText}
use Rattle.labels.proofs.Parts.{some_labels}
use Rattle.labels.proofs.label_set.LabelSet.parse_text.Goals as goal

other_error : {T : Type 0} (r : Result T LabelFault) (e : LabelFault) → r ≡ Err e → e ≡ Memory → r ≢ Err NotCanonical
other_error r e h m n =
    let k : Err e ≡ Err NotCanonical = sym h ∙ n in
    cc

no_error : {T : Type 0} (r : Result T LabelFault) (x : T) → r ≡ Ok x → r ≢ Err NotCanonical
no_error r x h n =
    let k : Ok x ≡ Err NotCanonical = sym h ∙ n in
    cc

pub returns-in_err-text-clause-none : goal.returns-in_err-text-clause-none
returns-in_err-text-clause-none c =
    let p = err_from_is_err_and c.from_residual.result c.from_residual.ensures.1 in
    (λ k. absurd (other_error _ p.0 p.1 p.2 k), λ n. absurd (some_labels c.args.text.now c.if-not-is_canonical.ensures n))

pub invariant_of-result : goal.invariant_of-result
invariant_of-result c = let P : List ℕ → Type 0 = λ t. IsCanonicalText t in subst P (sym c.in_ok-text.ensures.ok) c.if-not-is_canonical.ensures

pub returns-clause-none : goal.returns-clause-none
returns-clause-none c = (λ k. absurd (no_error _ _ refl k), λ n. absurd (some_labels c.args.text.now c.if-not-is_canonical.ensures n))
