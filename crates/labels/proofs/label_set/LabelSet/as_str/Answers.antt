use Rattle.std.proofs.Common.{ℕ, List, subst}
use Rattle.labels.specs.Canonical.{IsCanonicalText}
use Rattle.labels.proofs.label_set.LabelSet.as_str.Goals as goal

pub returns-clause-canonical : goal.returns-clause-canonical
returns-clause-canonical c = let P : List ℕ → Type 0 = λ t. IsCanonicalText t in subst P c.self.view_is c.self.invariant
