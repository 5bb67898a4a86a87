-- What was promised of an opening, a call and a close is a life.
use Rattle.std.proofs.Common.{◌≡◌, ℕ, zero, suc, ◌+◌, Bool, List, [], ◌∷◌, length, get_or, refl, sym, ap, subst, ⊎_elim, arith, Some, None, slice_get, slice_set, Option, Result, MatchOption, IfSome}
use Rattle.headline.proofs.Common.{Limits, Call, Reply, CallFault, Sight, Opening, AllFollow, Passed, about_of, fresh_pass, IsGiven, IsPassOf, Handed, IsHandedOut, AreOpenedFrom, Called, Thread, IsThread, IsOneOf, Life, ShardEnd, HandedOut, IsEnd}
use Rattle.ingester.specs.Openings.{AreFresh}
use Rattle.one_life.specs.Once.{IsLivedOnce}

-- a fresh pass waits for nothing
pub fresh_idle : {D : Type 0} (opening : Opening D) (count : ℕ) (passes : List Passed) (pass : Passed) → AreFresh opening count passes → slice_get passes 0 ≡ Some pass → IsPassOf opening pass
fresh_idle opening count passes pass fresh there =
    let is : pass ≡ fresh_pass opening.table opening.about 0 = fresh.fresh 0 pass there in
    record {
      table = ap (λ (p : Passed). p.table) is;
      about = ap (λ (p : Passed). p.caller.about) is;
      idle = λ e. ap (λ (p : Passed). p.caller.pending) is;
    }

-- the one pass
pub first_pass : (passes : List Passed) (pass : Passed) → length passes ≡ 1 → pass ≡ get_or passes 0 pass → slice_get passes 0 ≡ Some pass
first_pass [] pass one is = absurd (omega arith)
first_pass (p ∷ passes) pass one is = ap Some (sym is)

-- and once it was called
pub only_pass : (passes : List Passed) (after : Passed) → length passes ≡ 1 → slice_set passes 0 after ≡ after ∷ []
only_pass [] after one = absurd (omega arith)
only_pass (p ∷ []) after one = refl
only_pass (p ∷ q ∷ passes) after one = absurd (omega arith)

pub each_pass : {D : Type 0} (opening : Opening D) (passes : List Passed) (after : Passed) → length passes ≡ 1 → IsPassOf opening after → (i : ℕ) (pass : Passed) → slice_get (slice_set passes 0 after) i ≡ Some pass → IsPassOf opening pass
each_pass opening passes after one is i pass e = by i (subst (λ l. slice_get l i ≡ Some pass) (only_pass passes after one) e)
  where
    by : (j : ℕ) → slice_get (after ∷ []) j ≡ Some pass → IsPassOf opening pass
    by zero f = let same : after ≡ pass = cc in subst (IsPassOf opening) same is
    by (suc j) f = let never : None ≡ Some pass = f in absurd (cc)

-- what the one take hands out
pub finish : {D : Type 0} (sight : D → Sight) (follows : D → Type 0) (closed left : Handed D) (result : Option (List D × Bool)) (opening : Opening D) (passes : List Passed) (after : Passed) (Q : List D × Bool → Type 0)
    → closed ≡ record { opening = opening; passes = passes; left = opening.about.shards }
    → MatchOption result ((closed.left ≡ 0) × (left ≡ closed)) (λ _. (left ≡ record closed { left = left.left }) × (closed.left ≡ left.left + 1))
    → IfSome result (λ h. IsHandedOut sight follows closed.opening closed.passes left.left h) → opening.about.shards ≡ 1 → passes ≡ after ∷ []
    → ((h : List D × Bool) → IsHandedOut sight follows opening (after ∷ []) 0 h → Q h) → IfSome result Q
finish sight follows closed left None opening passes after Q is match kept one only then = tt
finish sight follows closed left (Some h) opening passes after Q is match kept one only then =
    let shards : closed.left ≡ opening.about.shards = ap (λ (x : Handed _). x.left) is in
    let last : left.left ≡ 0 = let l = match.1 in omega arith in
    let first = subst (λ (n : ℕ). IsHandedOut sight follows closed.opening closed.passes n h) last kept in
    let second = subst (λ (x : Handed _). IsHandedOut sight follows x.opening x.passes 0 h) is first in
    then h (subst (λ (l : List Passed). IsHandedOut sight follows opening l 0 h) only second)

module _ {D : Type 0} (sight : D → Sight) (follows : D → Type 0) (given : List (List D)) (one : length given ≡ 1) (opening : Opening D) (limits : Limits) (capacity : ℕ)
    (found : AreOpenedFrom sight follows (length given) capacity 0 given opening.logs opening.about.bases) (about : opening.about ≡ about_of opening.about.bases 1 limits capacity) (shards : opening.about.shards ≡ length given)
    (before after : Passed) (fresh : before ≡ fresh_pass opening.table opening.about 0) (call : Call) (outcome : Result Reply CallFault) (is : IsGiven before call outcome after)
    (handed : List D × Bool) (out : IsHandedOut sight follows opening (after ∷ []) 0 handed) where
  abbrev thread : Thread
  thread = record { number = 0; happened = record { before = before; what = Called call outcome; after = after } ∷ []; end = after }

  abbrev the_life : Life D
  the_life = record { given = given; opening = opening; threads = thread ∷ []; ends = HandedOut handed ∷ [] }

  thread_is : (t : Thread) → IsOneOf t (thread ∷ []) → IsThread opening t
  thread_is t h = ⊎_elim (λ (e : t ≡ thread). subst (IsThread opening) (sym e) (record { happen = (fresh, is, refl) })) (λ (n : ⊥). absurd n) h

  end_is : AllFollow follows handed.0 → (k : ℕ) (end : ShardEnd D) → slice_get (HandedOut handed ∷ []) k ≡ Some end → IsEnd sight follows opening (thread ∷ []) k end
  end_is f zero end e = let same : HandedOut handed ≡ end = cc in subst (IsEnd sight follows opening (thread ∷ []) 0) same (out, f)
  end_is f (suc k) end e = let never : None ≡ Some end = e in absurd (cc)

  pub lived : IsLivedOnce sight follows given call outcome handed
  lived = record {
    life = the_life;
    is_life = λ f. record {
      passes = 1;
      limits = limits;
      capacity = capacity;
      some_shard = omega arith;
      shards = shards;
      found = found;
      about = about;
      threads_are = thread_is;
      ends_of_all = sym one;
      ends_are = end_is f;
    };
    given_are = refl;
    ends_are = refl;
    happened = refl;
  }
