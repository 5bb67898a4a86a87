use Rattle.std.proofs.Common.{ℕ, List, sym, subst}
use Rattle.labels.specs.Canonical.{IsCanonicalText}
use Rattle.labels.proofs.label_set.LabelSetClone.clone.Goals as goal

pub invariant_of-result : goal.invariant_of-result
invariant_of-result c = let P : List ℕ → Type 0 = λ t. IsCanonicalText t in subst P (sym c.in_ok-text.ensures.cases) c.self.invariant
