-- The place that words give.
use Rattle.std.proofs.Common.{◌≡◌, ℕ, ◌<◌, ◌≤◌, List, [], ◌∷◌, length, get_or, Option, Some, None, MatchOption, IfSome, String, Global, string_bytes, sym, subst, ap, ◌∙◌}
use Rattle.programs.specs.Words.{value, NameShard, GiveShard, SaysPlace}
use Rattle.programs.specs.declared.said.ShardWords.{ShardWords}
use Rattle.programs.proofs.Listed.{listed_3}

same_shard : (words : List (String Global)) (f s c g t d : String Global) → words ≡ f ∷ s ∷ c ∷ [] → words ≡ g ∷ t ∷ d ∷ [] → t ≡ s
same_shard words f s c g t d first second = cc

same_count : (words : List (String Global)) (f s c g t d : String Global) → words ≡ f ∷ s ∷ c ∷ [] → words ≡ g ∷ t ∷ d ∷ [] → d ≡ c
same_count words f s c g t d first second = cc

named_again : (a b : List ℕ) (c d : List ℕ) → a ≡ c → b ≡ d → NameShard a b → NameShard c d
named_again a b c d e f h = subst (λ x. NameShard x d) e (subst (λ y. NameShard a y) f h)

gives_shard : (words : List (String Global)) (f s c : String Global) (shard count : List ℕ) (found : Option ShardWords) → words ≡ f ∷ s ∷ c ∷ [] → shard ≡ string_bytes s → count ≡ string_bytes c → MatchOption found (¬ NameShard shard count) (λ p. NameShard shard count × (p.shard ≡ value shard) × (p.count ≡ value count)) → MatchOption found (¬ GiveShard words) (λ _. GiveShard words)
gives_shard words f s c shard count None e a b h = λ given.
    h (named_again _ _ shard count
    (ap string_bytes (same_shard words f s c given.file given.shard given.count e given.words_are) ∙ sym a)
    (ap string_bytes (same_count words f s c given.file given.shard given.count e given.words_are) ∙ sym b)
    given.named)
gives_shard words f s c shard count (Some p) e a b h = record { file = f; shard = s; count = c; words_are = e; named = named_again shard count _ _ a b h.0 }

-- what was read of the three words
pub place_of_three : (words : List (String Global)) (f s c : String Global) (shard count : List ℕ) (found : Option ShardWords) → 3 ≤ length words → length words < 4 → f ≡ get_or words 0 f → s ≡ get_or words 1 s → c ≡ get_or words 2 c → shard ≡ string_bytes s → count ≡ string_bytes c → MatchOption found (¬ NameShard shard count) (λ p. NameShard shard count × (p.shard ≡ value shard) × (p.count ≡ value count)) → MatchOption found (¬ GiveShard words) (λ _. GiveShard words)
place_of_three words f s c shard count found some few x y z a b h = gives_shard words f s c shard count found (listed_3 words f s c some few x y z) a b h

says_place : (words : List (String Global)) (f s c : String Global) (shard count : List ℕ) (found : Option ShardWords) → words ≡ f ∷ s ∷ c ∷ [] → shard ≡ string_bytes s → count ≡ string_bytes c → MatchOption found (¬ NameShard shard count) (λ p. NameShard shard count × (p.shard ≡ value shard) × (p.count ≡ value count)) → IfSome found (SaysPlace words)
says_place words f s c shard count None e a b h = tt
says_place words f s c shard count (Some p) e a b h = record {
  given = record { file = f; shard = s; count = c; words_are = e; named = named_again shard count _ _ a b h.0 };
  shard_is = h.1 ∙ ap value a;
  count_is = h.2 ∙ ap value b;
}

-- and what they say
pub place_said : (words : List (String Global)) (f s c : String Global) (shard count : List ℕ) (found : Option ShardWords) → 3 ≤ length words → length words < 4 → f ≡ get_or words 0 f → s ≡ get_or words 1 s → c ≡ get_or words 2 c → shard ≡ string_bytes s → count ≡ string_bytes c → MatchOption found (¬ NameShard shard count) (λ p. NameShard shard count × (p.shard ≡ value shard) × (p.count ≡ value count)) → IfSome found (SaysPlace words)
place_said words f s c shard count found some few x y z a b h = says_place words f s c shard count found (listed_3 words f s c some few x y z) a b h
