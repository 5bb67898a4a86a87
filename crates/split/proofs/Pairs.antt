-- Pairs of slots, one after another.
use Rattle.std.proofs.Common.{◌≡◌, ◌≢◌, ℕ, ◌+◌, ◌<◌, ◌≤◌, List, [], ◌∷◌, length, set, sym, ap, ◌∙◌, subst, ⊎_elim, arith}
use Rattle.std.proofs.lemmas.List.{length-set, get_or-set_other}
use Rattle.std.proofs.lemmas.Bool.{cases_eq, cases_lt}
use Rattle.disk.specs.Sight.{Sight}
use Rattle.wal.specs.Opening.{slots_of, absent, AllFollow, PairRests}
use Rattle.wal.proofs.Resting.{rests_at}
use Rattle.split.specs.Splits.{pair_at, EachPair, IsAtRest}
use Rattle.split.specs.Stages.{AreDone}

-- ---- at rest

module _ {D : Type 0} (sight : D → Sight) (follows : D → Type 0) where
  -- what the disks promise
  abbrev pub KnowsNow : Type 0
  KnowsNow = (disk : D) (c : List ℕ) → follows disk → (sight disk).left_since (sight disk).moment c → (sight disk).may_leave c

  -- slots that no call was made on
  pub untouched : KnowsNow → (slots : List D) → IsAtRest sight follows slots slots
  untouched now slots = record { before = λ follow. follow; rests = rested slots }
    where
      rested : (ds : List D) → AllFollow follows ds → PairRests (slots_of sight ds) (slots_of sight ds)
      rested [] follow = record { first = rests_at absent (λ c left. left); second = rests_at absent (λ c left. left) }
      rested (a ∷ []) follow = record { first = rests_at absent (λ c left. left); second = rests_at absent (λ c left. left) }
      rested (a ∷ b ∷ []) follow = record { first = rests_at (sight a) (λ c left. now a c follow.0 left); second = rests_at (sight b) (λ c left. now b c follow.1.0 left) }
      rested (a ∷ b ∷ c ∷ more) follow = record { first = rests_at absent (λ c left. left); second = rests_at absent (λ c left. left) }

-- ---- one pair after another

module _ {D : Type 0} where
  at_other : (xs ys : List (List D)) (n s : ℕ) (x : List D) → ys ≡ set xs n x → s ≢ n → pair_at ys s ≡ pair_at xs s
  at_other xs ys n s x is not = ap (λ (l : List (List D)). pair_at l s) is ∙ get_or-set_other xs n s x [] not

  -- one pair more
  pub more_done : (P Q : ℕ → List D → List D → Type 0) (n : ℕ) (xs ys zs : List (List D)) (x : List D) → AreDone P n xs ys → zs ≡ set ys n x → ((s : ℕ) (given back : List D) → s < n → P s given back → Q s given back) → Q n (pair_at ys n) (pair_at zs n) → AreDone Q (n + 1) xs zs
  more_done P Q n xs ys zs x so_far is grows one = record {
    len = ap length is ∙ length-set ys n x ∙ so_far.len;
    done = λ s lt. ⊎_elim
        (λ (here : s ≡ n). subst (λ k. Q k (pair_at xs k) (pair_at zs k)) (sym here) (subst (λ given. Q n given (pair_at zs n)) (so_far.same n (omega arith)) one))
        (λ (not : s ≢ n). subst (λ back. Q s (pair_at xs s) back) (sym (at_other ys zs n s x is not)) (grows s (pair_at xs s) (pair_at ys s) (omega (arith, lt, not)) (so_far.done s (omega (arith, lt, not)))))
        (cases_eq s n);
    same = λ s le. at_other ys zs n s x is (λ (e : s ≡ n). omega (arith, le, e)) ∙ so_far.same s (omega (arith, le));
  }

  -- at this pair it stops
  pub stopped : (P R : ℕ → List D → List D → Type 0) (n : ℕ) (xs ys zs : List (List D)) (x : List D) → AreDone P n xs ys → zs ≡ set ys n x → ((s : ℕ) (given back : List D) → P s given back → R s given back) → R n (pair_at ys n) (pair_at zs n) → ((s : ℕ) (given : List D) → R s given given) → EachPair R xs zs
  stopped P R n xs ys zs x so_far is weaker one rest s lt =
      ⊎_elim
      (λ (here : s ≡ n). subst (λ k. R k (pair_at xs k) (pair_at zs k)) (sym here) (subst (λ given. R n given (pair_at zs n)) (so_far.same n (omega arith)) one))
      (λ (not : s ≢ n). subst (λ back. R s (pair_at xs s) back) (sym (at_other ys zs n s x is not)) (other not))
      (cases_eq s n)
    where
      other : s ≢ n → R s (pair_at xs s) (pair_at ys s)
      other not = ⊎_elim
          (λ (under : s < n). weaker s (pair_at xs s) (pair_at ys s) (so_far.done s under))
          (λ (over : n ≤ s). subst (λ back. R s (pair_at xs s) back) (sym (so_far.same s over)) (rest s (pair_at xs s)))
          (cases_lt s n)

  -- those before it
  pub before_stop : (P : ℕ → List D → List D → Type 0) (n : ℕ) (xs ys zs : List (List D)) (x : List D) → AreDone P n xs ys → zs ≡ set ys n x → (s : ℕ) → s < n → P s (pair_at xs s) (pair_at zs s)
  before_stop P n xs ys zs x so_far is s lt =
      subst (λ back. P s (pair_at xs s) back) (sym (at_other ys zs n s x is (λ (e : s ≡ n). omega (arith, lt, e)))) (so_far.done s lt)

  -- and this one
  pub at_stop : (P : ℕ → List D → List D → Type 0) (Q : List D → List D → Type 0) (n : ℕ) (xs ys : List (List D)) (back : List D) → AreDone P n xs ys → Q (pair_at ys n) back → Q (pair_at xs n) back
  at_stop P Q n xs ys back so_far one = subst (λ given. Q given back) (so_far.same n (omega arith)) one
