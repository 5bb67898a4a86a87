-- The server that words give.
use Rattle.std.proofs.Common.{◌≡◌, ℕ, ◌<◌, ◌≤◌, List, [], ◌∷◌, length, get_or, Option, Some, None, MatchOption, IfSome, String, Global, string_bytes, sym, subst, ap, ◌∙◌}
use Rattle.programs.specs.Words.{value, IsNumberIn, NameServer, IsLimit, SaysOfServer, GiveServer, SaysServer}
use Rattle.programs.specs.declared.said.ServerWords.{ServerWords}
use Rattle.programs.proofs.Listed.{listed_4, listed_5}

-- the names in texts that are the same
named_again : (p s w q t v : List ℕ) → p ≡ q → s ≡ t → w ≡ v → NameServer p s w → NameServer q t v
named_again p s w q t v e f g h = subst (λ x. NameServer x t v) e (subst (λ x. NameServer p x v) f (subst (NameServer p s) g h))

module _ (words : List (String Global)) (f p s w : String Global) where
  port_is : (g q t v : String Global) (l m : List (String Global)) → words ≡ f ∷ p ∷ s ∷ w ∷ l → words ≡ g ∷ q ∷ t ∷ v ∷ m → q ≡ p
  port_is g q t v l m first second = cc

  shards_is : (g q t v : String Global) (l m : List (String Global)) → words ≡ f ∷ p ∷ s ∷ w ∷ l → words ≡ g ∷ q ∷ t ∷ v ∷ m → t ≡ s
  shards_is g q t v l m first second = cc

  workers_is : (g q t v : String Global) (l m : List (String Global)) → words ≡ f ∷ p ∷ s ∷ w ∷ l → words ≡ g ∷ q ∷ t ∷ v ∷ m → v ≡ w
  workers_is g q t v l m first second = cc

  limit_is : (g q t v : String Global) (l m : List (String Global)) → words ≡ f ∷ p ∷ s ∷ w ∷ l → words ≡ g ∷ q ∷ t ∷ v ∷ m → m ≡ l
  limit_is g q t v l m first second = cc

  -- what the words name
  names : (l : List (String Global)) → words ≡ f ∷ p ∷ s ∷ w ∷ l → GiveServer words → NameServer (string_bytes p) (string_bytes s) (string_bytes w) × IsLimit l
  names l e given = (
    named_again _ _ _ _ _ _
        (ap string_bytes (port_is given.folder given.port given.shards given.workers l given.limit e given.words_are))
        (ap string_bytes (shards_is given.folder given.port given.shards given.workers l given.limit e given.words_are))
        (ap string_bytes (workers_is given.folder given.port given.shards given.workers l given.limit e given.words_are))
        given.named,
    subst IsLimit (limit_is given.folder given.port given.shards given.workers l given.limit e given.words_are) given.limited,
  )

  -- what was read of four words
  pub server_of_four : {A : Type 0} (port shards workers : List ℕ) (found : Option A) → 4 ≤ length words → length words < 5 → f ≡ get_or words 0 f → p ≡ get_or words 1 p → s ≡ get_or words 2 s → w ≡ get_or words 3 w → port ≡ string_bytes p → shards ≡ string_bytes s → workers ≡ string_bytes w → MatchOption found (¬ NameServer port shards workers) (λ _. NameServer port shards workers) → MatchOption found (¬ GiveServer words) (λ _. GiveServer words)
  server_of_four port shards workers None some few a b c d x y z h = λ given.
      h (named_again _ _ _ port shards workers (sym x) (sym y) (sym z) (names [] (listed_4 words f p s w some few a b c d) given).0)
  server_of_four port shards workers (Some it) some few a b c d x y z h = record {
    folder = f;
    port = p;
    shards = s;
    workers = w;
    limit = [];
    words_are = listed_4 words f p s w some few a b c d;
    named = named_again _ _ _ _ _ _ x y z h;
    limited = tt;
  }

  -- what was read of five words
  pub server_of_five : {A : Type 0} (l : String Global) (port shards workers limit : List ℕ) (found : Option A) → 5 ≤ length words → length words < 6 → f ≡ get_or words 0 f → p ≡ get_or words 1 p → s ≡ get_or words 2 s → w ≡ get_or words 3 w → l ≡ get_or words 4 l → port ≡ string_bytes p → shards ≡ string_bytes s → workers ≡ string_bytes w → limit ≡ string_bytes l → MatchOption found (¬ (NameServer port shards workers × IsNumberIn 1 4294967295 limit)) (λ _. NameServer port shards workers × IsNumberIn 1 4294967295 limit) → MatchOption found (¬ GiveServer words) (λ _. GiveServer words)
  server_of_five l port shards workers limit None some few a b c d e x y z u h = λ given.
      let found = names (l ∷ []) (listed_5 words f p s w l some few a b c d e) given in
      h (named_again _ _ _ port shards workers (sym x) (sym y) (sym z) found.0, subst (IsNumberIn 1 4294967295) (sym u) found.1)
  server_of_five l port shards workers limit (Some it) some few a b c d e x y z u h = record {
    folder = f;
    port = p;
    shards = s;
    workers = w;
    limit = l ∷ [];
    words_are = listed_5 words f p s w l some few a b c d e;
    named = named_again _ _ _ _ _ _ x y z h.0;
    limited = subst (IsNumberIn 1 4294967295) u h.1;
  }

  -- and what they say
  pub said_by_four : (folder port shards workers : List ℕ) (found : Option ServerWords) → 4 ≤ length words → length words < 5 → f ≡ get_or words 0 f → p ≡ get_or words 1 p → s ≡ get_or words 2 s → w ≡ get_or words 3 w → folder ≡ string_bytes f → port ≡ string_bytes p → shards ≡ string_bytes s → workers ≡ string_bytes w → MatchOption found (¬ NameServer port shards workers) (λ _. NameServer port shards workers) → IfSome found (SaysOfServer folder port shards workers None) → IfSome found (SaysServer words)
  said_by_four folder port shards workers None some few a b c d v x y z h says = tt
  said_by_four folder port shards workers (Some it) some few a b c d v x y z h says = record {
    given = record {
      folder = f;
      port = p;
      shards = s;
      workers = w;
      limit = [];
      words_are = listed_4 words f p s w some few a b c d;
      named = named_again _ _ _ _ _ _ x y z h;
      limited = tt;
    };
    says = record {
      folder_is = says.folder_is ∙ v;
      port_is = says.port_is ∙ ap value x;
      shards_are = says.shards_are ∙ ap value y;
      workers_are = says.workers_are ∙ ap value z;
      connections_are = says.connections_are;
    };
  }

  pub said_by_five : (l : String Global) (folder port shards workers limit : List ℕ) (found : Option ServerWords) → 5 ≤ length words → length words < 6 → f ≡ get_or words 0 f → p ≡ get_or words 1 p → s ≡ get_or words 2 s → w ≡ get_or words 3 w → l ≡ get_or words 4 l → folder ≡ string_bytes f → port ≡ string_bytes p → shards ≡ string_bytes s → workers ≡ string_bytes w → limit ≡ string_bytes l → MatchOption found (¬ (NameServer port shards workers × IsNumberIn 1 4294967295 limit)) (λ _. NameServer port shards workers × IsNumberIn 1 4294967295 limit) → IfSome found (SaysOfServer folder port shards workers (Some (value limit))) → IfSome found (SaysServer words)
  said_by_five l folder port shards workers limit None some few a b c d e v x y z u h says = tt
  said_by_five l folder port shards workers limit (Some it) some few a b c d e v x y z u h says = record {
    given = record {
      folder = f;
      port = p;
      shards = s;
      workers = w;
      limit = l ∷ [];
      words_are = listed_5 words f p s w l some few a b c d e;
      named = named_again _ _ _ _ _ _ x y z h.0;
      limited = subst (IsNumberIn 1 4294967295) u h.1;
    };
    says = record {
      folder_is = says.folder_is ∙ v;
      port_is = says.port_is ∙ ap value x;
      shards_are = says.shards_are ∙ ap value y;
      workers_are = says.workers_are ∙ ap value z;
      connections_are = says.connections_are ∙ ap (λ t. Some (value t)) u;
    };
  }
