-- A book that is compared with passes, and what its slots keep.
use Rattle.std.proofs.Common.{◌≡◌, ◌≢◌, ℕ, ◌+◌, ◌<◌, List, [], ◌∷◌, Bool, true, false, refl, sym, ap, ◌∙◌, subst, ⊎_elim, arith}
use Rattle.std.specs.Prelude.{Some, slice_get, slice_set, slice_index_or, length}
use Rattle.std.proofs.lemmas.List.{set-get_or}
use Rattle.std.proofs.lemmas.Option.{slice_get_within}
use Rattle.std.proofs.lemmas.Bool.{cases_eq}
use Rattle.accept.specs.Histories.{is_marked}
use Rattle.disk.specs.Sight.{Sight}
use Rattle.segment.specs.ShardPlaces.{place_of}
use Rattle.wal.specs.Moments.{HasFailed, HasNoFailure}
use Rattle.wal.specs.Logs.{Follow, slots}
use Rattle.wal.specs.Covers.{Covers}
use Rattle.wal.specs.Opening.{slots_of, disks, AllFollow}
use Rattle.history.specs.declared.views.About.{About}
use Rattle.history.specs.Histories.{IsLegalAt, IsByPasses, doubt_of, history_of}
use Rattle.history.specs.Handles.{Booked, Passed}
use Rattle.shard.specs.Keeping.{KeepsHistory}
use Rattle.shard.specs.Shards.{Sharded}
use Rattle.openings.proofs.Ordered.{ordered}
use Rattle.owners.specs.Openings.{Opening}
use Rattle.owners.specs.Places.{IsOf}
use Rattle.ingester.specs.Closings.{IsTold, IsComparedTo, AreComparedTo, IsHandedOut}

pub one_more : (book : Booked) (passes : List Passed) (n : ℕ) (p : Passed) → AreComparedTo book passes n → slice_get passes n ≡ Some p → IsComparedTo book p → AreComparedTo book passes (n + 1)
one_more book passes n p so_far at h i pass lt e = ⊎_elim
    (λ (is : i ≡ n). let same : Some p ≡ Some pass = sym at ∙ (ap (slice_get passes) (sym is) ∙ e) in let there : p ≡ pass = cc in subst (IsComparedTo book) there h)
    (λ (not : i ≢ n). so_far i pass (omega arith) e)
    (cases_eq i n)

pub set_alike : {A : Type 0} (xs : List A) (i : ℕ) (x y : A) → y ≡ x → x ≡ slice_index_or xs i x → slice_set xs i y ≡ xs
set_alike xs i x y e at = ap (slice_set xs i) (e ∙ at) ∙ set-get_or xs i x

module _ {D : Type 0} (sight : D → Sight) (follows : D → Type 0) where
  -- a shard of the opening, compared with all passes, is handed out
  pub handed : (opening : Opening D) (passes : List Passed) (k : ℕ) (shard : Sharded D) (out : List D) (marked : Bool) → 0 < length passes
      → AreComparedTo shard.book passes (length passes)
      → IsOf sight follows opening k shard
      → out ≡ disks shard.log
      → (Follow follows shard.log → KeepsHistory (slots sight shard.log) shard.book (doubt_of shard.book.items))
      → (AllFollow follows out → Follow follows shard.opened)
      → (is_marked shard.book.items ≡ true → HasFailed (slots sight shard.opened) (slots sight shard.log))
      → (is_marked shard.book.items ≡ false → HasNoFailure (slots sight shard.opened) (slots sight shard.log))
      → marked ≡ is_marked shard.book.items
      → IsHandedOut sight follows opening passes k (out, marked)
  handed opening passes k shard out marked some_pass compared is_of is keeps before failed not_failed flag =
      let there = first_of passes some_pass in
      let are = ordered sight follows shard.log out is in
      let about = is_of.about in
      let number = is_of.number in
      record {
        items = shard.book.items;
        legal = subst (λ (z : About × ℕ). IsLegalAt z.0 z.1 shard.book.items) (λ i. (about i, number i)) (compared 0 there.0 some_pass there.1).legal;
        told = λ i pass e. subst (λ (n : ℕ). IsTold n shard.book.items pass) number (compared i pass (slice_get_within passes i pass e) e).told;
        by_passes = subst (λ (a : About). IsByPasses a.passes shard.book.items) about (compared 0 there.0 some_pass there.1).by_passes;
        marked_is = flag;
        covers = λ f. subst (λ (z : About × ℕ). Covers (place_of z.1 z.0.shards) z.0.limits (slots_of sight out) (history_of z.0 z.1 shard.book.items) (doubt_of shard.book.items)) (λ i. (about i, number i))
            (are.covers _ _ _ _ (keeps (are.both f)));
        opened = shard.opened;
        opened_as = is_of.opened;
        before = before;
        failed = λ e. are.failed shard.opened (failed (sym flag ∙ e));
        not_failed = λ e. are.not_failed shard.opened (not_failed (sym flag ∙ e));
        shard = shard;
        items_are = refl;
        slots_are = is;
        turns = is_of.turns;
        turned = is_of.turned;
      }
    where
      first_of : (xs : List Passed) → 0 < length xs → (p : Passed) × (slice_get xs 0 ≡ Some p)
      first_of [] h = absurd (omega arith)
      first_of (p ∷ xs) h = (p, refl)
