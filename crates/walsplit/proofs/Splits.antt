-- The split that words say.
use Rattle.std.proofs.Common.{◌≡◌, ℕ, ◌<◌, ◌≤◌, List, [], ◌∷◌, length, get_or, Option, Some, None, MatchOption, IfSome, String, Global, string_bytes, sym, subst, ap, ◌∙◌}
use Rattle.labels.specs.Shards.{max_shards}
use Rattle.programs.specs.Words.{value, IsNumberIn}
use Rattle.walsplit.specs.Words.{GiveSplit, SaysOfSplit, SaysSplit}
use Rattle.walsplit.specs.declared.said.SplitWords.{SplitWords}
use Rattle.walsplit.proofs.Listed.{listed_3}

same_count : (words : List (String Global)) (f t c g u d : String Global) → words ≡ f ∷ t ∷ c ∷ [] → words ≡ g ∷ u ∷ d ∷ [] → d ≡ c
same_count words f t c g u d first second = cc

gives_split : {A : Type 0} (words : List (String Global)) (f t c : String Global) (count : List ℕ) (found : Option A) → words ≡ f ∷ t ∷ c ∷ [] → count ≡ string_bytes c → MatchOption found (¬ IsNumberIn 1 max_shards count) (λ _. IsNumberIn 1 max_shards count) → MatchOption found (¬ GiveSplit words) (λ _. GiveSplit words)
gives_split words f t c count None e z h = λ given.
    h (subst (IsNumberIn 1 max_shards) (ap string_bytes (same_count words f t c given.old given.new given.count e given.words_are) ∙ sym z) given.named)
gives_split words f t c count (Some it) e z h = record { old = f; new = t; count = c; words_are = e; named = subst (IsNumberIn 1 max_shards) z h }

-- what was read of three words
pub split_of_three : {A : Type 0} (words : List (String Global)) (f t c : String Global) (count : List ℕ) (found : Option A) → 3 ≤ length words → length words < 4 → f ≡ get_or words 0 f → t ≡ get_or words 1 t → c ≡ get_or words 2 c → count ≡ string_bytes c → MatchOption found (¬ IsNumberIn 1 max_shards count) (λ _. IsNumberIn 1 max_shards count) → MatchOption found (¬ GiveSplit words) (λ _. GiveSplit words)
split_of_three words f t c count found some few a b d z h = gives_split words f t c count found (listed_3 words f t c some few a b d) z h

-- and what they say
pub split_said : (words : List (String Global)) (f t c : String Global) (old new count : List ℕ) (found : Option SplitWords) → 3 ≤ length words → length words < 4 → f ≡ get_or words 0 f → t ≡ get_or words 1 t → c ≡ get_or words 2 c → old ≡ string_bytes f → new ≡ string_bytes t → count ≡ string_bytes c → MatchOption found (¬ IsNumberIn 1 max_shards count) (λ _. IsNumberIn 1 max_shards count) → IfSome found (SaysOfSplit old new count) → IfSome found (SaysSplit words)
split_said words f t c old new count None some few a b d x y z h says = tt
split_said words f t c old new count (Some it) some few a b d x y z h says = record {
  given = record { old = f; new = t; count = c; words_are = listed_3 words f t c some few a b d; named = subst (IsNumberIn 1 max_shards) z h };
  says = record {
    old_is = says.old_is ∙ x;
    new_is = says.new_is ∙ y;
    shards_are = says.shards_are ∙ ap value z;
  };
}
