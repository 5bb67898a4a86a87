-- Streams that are split, and split again.
use Rattle.std.proofs.Common.{◌≡◌, ◌<◌, ◌==◌, ℕ, Bool, true, false, cond, is_some, Option, Some, None, refl, sym, ap, ◌∙◌}
use Rattle.std.specs.Prelude.{IsSome}
use Rattle.std.specs.FinMap as finite
use Rattle.std.proofs.lemmas.Bool.{eq-eqb, eqb-true, false≢true}
use Rattle.labels.specs.Shards.{shard}
use Rattle.labels.specs.declared.key.StreamKey.{StreamKey}
use Rattle.accept.specs.declared.image.StreamImage.{StreamImage}
use Rattle.accept.specs.Rooms.{Streams}
use Rattle.accept.proofs.Meanings.{same_streams_map}
use Rattle.split.specs.Maps.{AreApart, IsSplit}
use Rattle.split.proofs.Dealt.{shard_within}

-- what stands in the shard of its key
at_home : (n m : ℕ) (olds news : ℕ → Streams) → 0 < m → IsSplit n m olds news → (k : StreamKey) → finite.get (news (shard k m)) k ≡ finite.get (olds (shard k n)) k
at_home n m olds news some split k =
    split (shard k m) k (shard_within k m some) ∙ ap (λ (b : Bool). cond b (finite.get (olds (shard k n)) k) None) (eq-eqb (shard k m) (shard k m) refl)

by_test : (b : Bool) (o : Option StreamImage) (x : StreamImage) → cond b o None ≡ Some x → (b ≡ true) × (o ≡ Some x)
by_test true o x e = (refl, e)
by_test false o x e = absurd (false≢true (ap is_some e))

there : (o : Option StreamImage) → IsSome o → (x : StreamImage) × (o ≡ Some x)
there None some = absurd (false≢true some)
there (Some x) some = (x, refl)

pub kept : (n m : ℕ) (olds news : ℕ → Streams) → 0 < m → AreApart n olds → IsSplit n m olds news → (s : ℕ) (k : StreamKey) (x : StreamImage) → s < n → finite.get (olds s) k ≡ Some x → finite.get (news (shard k m)) k ≡ Some x
kept n m olds news some apart split s k x lt is =
    at_home n m olds news some split k ∙ (ap (λ (i : ℕ). finite.get (olds i) k) (apart s k lt (ap is_some is)) ∙ is)

pub not_new : (n m : ℕ) (olds news : ℕ → Streams) → IsSplit n m olds news → (s : ℕ) (k : StreamKey) (x : StreamImage) → s < m → finite.get (news s) k ≡ Some x → finite.get (olds (shard k n)) k ≡ Some x
not_new n m olds news split s k x lt is = (by_test (shard k m == s) (finite.get (olds (shard k n)) k) x (sym (split s k lt) ∙ is)).1

pub apart_then : (n m : ℕ) (olds news : ℕ → Streams) → IsSplit n m olds news → AreApart m news
apart_then n m olds news split s k lt some =
    let stands = there (finite.get (news s) k) some in
    eqb-true (shard k m) s (by_test (shard k m == s) (finite.get (olds (shard k n)) k) stands.0 (sym (split s k lt) ∙ stands.1)).0

pub one_split : (n m : ℕ) (olds news others : ℕ → Streams) → IsSplit n m olds news → IsSplit n m olds others → (s : ℕ) → s < m → news s ≡ others s
one_split n m olds news others split other s lt = same_streams_map (news s) (others s) (λ k. split s k lt ∙ sym (other s k lt))

-- what a test of the shard leaves of maps whose keys stand in their shards
left : (n s : ℕ) (olds : ℕ → Streams) (k : StreamKey) (b : Bool) (o : Option StreamImage) → (shard k n == s) ≡ b → o ≡ finite.get (olds s) k → (IsSome o → shard k n ≡ s) → cond b (finite.get (olds (shard k n)) k) None ≡ o
left n s olds k true o test is home = ap (λ (i : ℕ). finite.get (olds i) k) (eqb-true (shard k n) s test) ∙ sym is
left n s olds k false None test is home = refl
left n s olds k false (Some x) test is home = absurd (false≢true (sym test ∙ eq-eqb (shard k n) s (home refl)))

pub back_again : (n m : ℕ) (olds news again : ℕ → Streams) → 0 < m → AreApart n olds → IsSplit n m olds news → IsSplit m n news again → (s : ℕ) → s < n → again s ≡ olds s
back_again n m olds news again some apart split second s lt =
    same_streams_map (again s) (olds s) (λ k.
    second s k lt
    ∙ (ap (λ (o : Option StreamImage). cond (shard k n == s) o None) (at_home n m olds news some split k)
    ∙ left n s olds k (shard k n == s) (finite.get (olds s) k) refl refl (λ home. apart s k lt home)))
