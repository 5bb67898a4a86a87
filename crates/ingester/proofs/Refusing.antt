-- Which call came back.
use Rattle.std.proofs.Common.{◌≡◌, List, [], ◌∷◌, ◌++◌, ap, ◌∙◌, subst}
use Rattle.accept.specs.declared.history.Ask.{Ask}
use Rattle.history.specs.Histories.{IsFirst}

-- the first of the open calls is the only one
pub first_only : (asks old : List Ask) (a b : Ask) → asks ≡ old ++ b ∷ [] → old ≡ [] → IsFirst a asks → b ≡ a
first_only asks old a b is none first = subst (IsFirst a) (is ∙ ap (λ (l : List Ask). l ++ b ∷ []) none) first
