-- The shards that close takes out, one after another, and gives away from the last.
use Rattle.std.proofs.Common.{◌≡◌, ◌≢◌, ℕ, ◌<◌, ◌≤◌, List, [], ◌∷◌, ◌++◌, Bool, true, false, length, length-append, take, drop, get_or, sym, ap, ◌∙◌, subst, ⊎_elim, arith}
use Rattle.std.specs.Prelude.{Some, None, slice_get}
use Rattle.std.proofs.lemmas.Option.{slice_get_within, slice_get_cases}
use Rattle.std.proofs.lemmas.Bool.{cases_eq}
use Rattle.std.proofs.Math.Seq.{take-append_seam}
use Rattle.accept.specs.Histories.{is_marked}
use Rattle.disk.specs.Sight.{Sight}
use Rattle.wal.specs.Moments.{HasFailed, HasNoFailure}
use Rattle.wal.specs.Logs.{Follow, slots}
use Rattle.wal.specs.Opening.{disks, AllFollow}
use Rattle.history.specs.Histories.{doubt_of}
use Rattle.history.specs.Handles.{Passed}
use Rattle.shard.specs.Keeping.{KeepsHistory}
use Rattle.shard.specs.Shards.{Sharded}
use Rattle.keyed.proofs.Filling.{get_before, get_last}
use Rattle.owners.specs.Openings.{Opening}
use Rattle.owners.specs.Places.{IsOf}
use Rattle.ingester.specs.Closings.{AreComparedTo, IsHandedOut, IsLast, AreLast}
use Rattle.ingester.proofs.Comparing.{handed}

-- what was lent whole and came back the same
pub written_back : {A : Type 0} (xs ys : List A) (n : ℕ) → ys ≡ xs → n ≡ length xs → take n (ys ++ drop (length ys) xs) ≡ xs
written_back xs ys n e is = (λ i. take ((is ∙ ap length (sym e)) i) (ys ++ drop (length ys) xs)) ∙ (take-append_seam ys (drop (length ys) xs) ∙ e)

-- an element that stands before the last
pub get_front : {A : Type 0} (xs : List A) (s z : A) (k : ℕ) → k < length xs → slice_get (xs ++ s ∷ []) k ≡ Some z → slice_get xs k ≡ Some z
get_front {A} xs s z k lt e = ⊎_elim
    (λ (t : (x : A) × (k < length xs) × (slice_get xs k ≡ Some x) × (get_or xs k x ≡ x)). t.2 ∙ (sym (get_before xs s t.0 k lt t.2) ∙ e))
    (λ (t : (length xs ≤ k) × (slice_get xs k ≡ None)). absurd (omega arith))
    (slice_get_cases xs k).1

module _ {D : Type 0} (sight : D → Sight) (follows : D → Type 0) (opening : Opening D) (passes : List Passed) where
  pub last_more : (xs : List (Sharded D)) (s : Sharded D) → ((k : ℕ) (z : Sharded D) → slice_get xs k ≡ Some z → IsLast sight follows opening passes k z) → IsLast sight follows opening passes (length xs) s
      → (k : ℕ) (z : Sharded D) → slice_get (xs ++ s ∷ []) k ≡ Some z → IsLast sight follows opening passes k z
  last_more xs s all last k z e = ⊎_elim
      (λ (is : k ≡ length xs). let same : Some s ≡ Some z = sym (get_last xs s) ∙ (ap (slice_get (xs ++ s ∷ [])) (sym is) ∙ e) in let there : s ≡ z = cc in subst (λ (w : ℕ × Sharded D). IsLast sight follows opening passes w.0 w.1) (λ i. (sym is i, there i)) last)
      (λ (not : k ≢ length xs). before xs s k z (under k not (slice_get_within (xs ++ s ∷ []) k z e)) e all)
      (cases_eq k (length xs))
    where
      under : (k : ℕ) → k ≢ length xs → k < length (xs ++ s ∷ []) → k < length xs
      under k not lt = let long = length-append xs (s ∷ []) in omega arith

      before : (xs : List (Sharded D)) (s : Sharded D) (k : ℕ) (z : Sharded D) → k < length xs → slice_get (xs ++ s ∷ []) k ≡ Some z → ((k : ℕ) (z : Sharded D) → slice_get xs k ≡ Some z → IsLast sight follows opening passes k z) → IsLast sight follows opening passes k z
      before xs s k z lt e all = all k z (get_front xs s z k lt e)

  pub front_last : (shards front : List (Sharded D)) (s : Sharded D) → shards ≡ front ++ s ∷ [] → AreLast sight follows opening passes shards → AreLast sight follows opening passes front
  front_last shards front s e h = record { some_pass = h.some_pass; each = λ k z at. h.each k z (ap (λ l. slice_get l k) e ∙ get_before front s z k (slice_get_within front k z at) at) }

  pub the_last : (shards front : List (Sharded D)) (s : Sharded D) → shards ≡ front ++ s ∷ [] → AreLast sight follows opening passes shards → IsLast sight follows opening passes (length front) s
  the_last shards front s e h = h.each (length front) s (ap (λ l. slice_get l (length front)) e ∙ get_last front s)

  pub last_of : (compared : List Passed) (k : ℕ) (shard again : Sharded D) → IsOf sight follows opening k shard → again ≡ shard
      → compared ≡ passes → AreComparedTo shard.book compared (length compared) → IsLast sight follows opening passes k again
  last_of compared k shard again is same to h = subst (IsLast sight follows opening passes k) (sym same) (record {
    is_of = is;
    compared = subst (λ l. AreComparedTo shard.book l (length l)) to h;
  })

module _ {D : Type 0} (sight : D → Sight) (follows : D → Type 0) where
  pub last_handed : (opening : Opening D) (passes : List Passed) (shards front : List (Sharded D)) (shard : Sharded D) (out : List D) (marked : Bool)
      → shards ≡ front ++ shard ∷ [] → AreLast sight follows opening passes shards
      → out ≡ disks shard.log
      → (Follow follows shard.log → KeepsHistory (slots sight shard.log) shard.book (doubt_of shard.book.items))
      → (AllFollow follows out → Follow follows shard.opened)
      → (is_marked shard.book.items ≡ true → HasFailed (slots sight shard.opened) (slots sight shard.log))
      → (is_marked shard.book.items ≡ false → HasNoFailure (slots sight shard.opened) (slots sight shard.log))
      → marked ≡ is_marked shard.book.items → IsHandedOut sight follows opening passes (length front) (out, marked)
  last_handed opening passes shards front shard out marked e h is keeps before failed not_failed flag =
      let last = the_last sight follows opening passes shards front shard e h in
      handed sight follows opening passes (length front) shard out marked h.some_pass last.compared last.is_of is keeps before failed not_failed flag
