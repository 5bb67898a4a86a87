-- The call that words give.
use Rattle.std.proofs.Common.{◌≡◌, ℕ, ◌<◌, ◌≤◌, List, [], ◌∷◌, length, get_or, Option, Some, None, MatchOption, IfOk, IfSome, String, Global, string_bytes, sym, ap, subst, ◌∙◌}
use Rattle.programs.specs.Words.{value, NameCall, SaysOfCall, GiveCall, SaysCall}
use Rattle.programs.specs.declared.said.CallWords.{CallWords}
use Rattle.programs.proofs.Listed.{listed_5}

named_again : (v s o n w t p m : List ℕ) → v ≡ w → s ≡ t → o ≡ p → n ≡ m → NameCall v s o n → NameCall w t p m
named_again v s o n w t p m e f g k h = subst (λ x. NameCall x t p m) e (subst (λ x. NameCall v x p m) f (subst (λ x. NameCall v s x m) g (subst (NameCall v s o) k h)))

module _ (words : List (String Global)) (v f s o n : String Global) where
  verb_is : (w g t p m : String Global) → words ≡ v ∷ f ∷ s ∷ o ∷ n ∷ [] → words ≡ w ∷ g ∷ t ∷ p ∷ m ∷ [] → w ≡ v
  verb_is w g t p m first second = cc

  shards_is : (w g t p m : String Global) → words ≡ v ∷ f ∷ s ∷ o ∷ n ∷ [] → words ≡ w ∷ g ∷ t ∷ p ∷ m ∷ [] → t ≡ s
  shards_is w g t p m first second = cc

  tenant_is : (w g t p m : String Global) → words ≡ v ∷ f ∷ s ∷ o ∷ n ∷ [] → words ≡ w ∷ g ∷ t ∷ p ∷ m ∷ [] → p ≡ o
  tenant_is w g t p m first second = cc

  now_is : (w g t p m : String Global) → words ≡ v ∷ f ∷ s ∷ o ∷ n ∷ [] → words ≡ w ∷ g ∷ t ∷ p ∷ m ∷ [] → m ≡ n
  now_is w g t p m first second = cc

  -- what was read of five words
  pub call_of_five : {A : Type 0} (verb shards tenant now : List ℕ) (found : Option A) → 5 ≤ length words → length words < 6 → v ≡ get_or words 0 v → f ≡ get_or words 1 f → s ≡ get_or words 2 s → o ≡ get_or words 3 o → n ≡ get_or words 4 n → verb ≡ string_bytes v → shards ≡ string_bytes s → tenant ≡ string_bytes o → now ≡ string_bytes n → MatchOption found (¬ NameCall verb shards tenant now) (λ _. NameCall verb shards tenant now) → MatchOption found (¬ GiveCall words) (λ _. GiveCall words)
  call_of_five verb shards tenant now None some few a b c d e x y u z h = λ given.
      let is = listed_5 words v f s o n some few a b c d e in
      h (named_again _ _ _ _ verb shards tenant now
      (ap string_bytes (verb_is given.verb given.folder given.shards given.tenant given.now is given.words_are) ∙ sym x)
      (ap string_bytes (shards_is given.verb given.folder given.shards given.tenant given.now is given.words_are) ∙ sym y)
      (ap string_bytes (tenant_is given.verb given.folder given.shards given.tenant given.now is given.words_are) ∙ sym u)
      (ap string_bytes (now_is given.verb given.folder given.shards given.tenant given.now is given.words_are) ∙ sym z)
      given.named)
  call_of_five verb shards tenant now (Some it) some few a b c d e x y u z h = record {
    verb = v;
    folder = f;
    shards = s;
    tenant = o;
    now = n;
    words_are = listed_5 words v f s o n some few a b c d e;
    named = named_again _ _ _ _ _ _ _ _ x y u z h;
  }

  -- and what they say
  pub call_said : (verb folder shards tenant now : List ℕ) (found : Option CallWords) → 5 ≤ length words → length words < 6 → v ≡ get_or words 0 v → f ≡ get_or words 1 f → s ≡ get_or words 2 s → o ≡ get_or words 3 o → n ≡ get_or words 4 n → verb ≡ string_bytes v → folder ≡ string_bytes f → shards ≡ string_bytes s → tenant ≡ string_bytes o → now ≡ string_bytes n → MatchOption found (¬ NameCall verb shards tenant now) (λ _. NameCall verb shards tenant now) → IfSome found (SaysOfCall verb folder shards tenant now) → IfSome found (SaysCall words)
  call_said verb folder shards tenant now None some few a b c d e x w y u z h says = tt
  call_said verb folder shards tenant now (Some it) some few a b c d e x w y u z h says = record {
    given = record {
      verb = v;
      folder = f;
      shards = s;
      tenant = o;
      now = n;
      words_are = listed_5 words v f s o n some few a b c d e;
      named = named_again _ _ _ _ _ _ _ _ x y u z h;
    };
    says = record {
      route_is = says.route_is ∙ x;
      folder_is = says.folder_is ∙ w;
      shards_are = says.shards_are ∙ ap value y;
      tenant_is = subst (λ t. IfOk it.tenant (λ name. name ≡ t)) u says.tenant_is;
      now_is = says.now_is ∙ ap value z;
    };
  }
