-- What was promised of a shard that is opened and makes one turn is a stretch.
use Rattle.std.proofs.Common.{◌≡◌, ℕ, [], ◌∷◌, refl, sym, ap, ◌∙◌, subst, ⊎_elim, Some}
use Rattle.headline.proofs.Common.{Sight, Wal, Sharded, Turn, IsBeginning, seen_at, HasStepsOf, Booked, Passed, fresh_book, Opening, opening_of, IsTold, Thread, IsOneOf, IsInTime, IsMade}
use Rattle.headline.proofs.Owning.{in_time_told}
use Rattle.headline.proofs.Turning.{same_book}
use Rattle.one_life.specs.Turned.{IsTurnedOnce}

-- a book without a step
fresh : (book : Booked) → book.shard ≡ 0 → book.items ≡ [] → book ≡ fresh_book book.table book.about 0
fresh book only none = λ i. record { table = book.table; about = book.about; shard = only i; items = none i }

-- what a comparison found of a shard and a pass, which it left as they were
pub compared : {D : Type 0} (s left : Sharded D) (p same : Passed) → left ≡ s → same ≡ p → IsBeginning (seen_at p.caller s.book.shard) s.book.items → HasStepsOf p.caller s.book.shard s.book.items → IsTold left.book.shard left.book.items same
compared {D = D} s left p same e f begins steps =
    subst (λ (x : Sharded D). IsTold x.book.shard x.book.items same) (sym e) (subst (IsTold s.book.shard s.book.items) (sym f) (record { begins = begins; steps = steps }))

module _ {D : Type 0} (sight : D → Sight) (follows : D → Type 0) (log : Wal D) (book : Booked) (only : book.shard ≡ 0) (none : book.items ≡ []) (t : Turn D) (pass : Passed) (old : t.old ≡ record { log = log; book = book; opened = log }) (made : IsMade sight follows t)
    (before : IsTold t.old.book.shard t.old.book.items pass) (after : IsTold t.new.book.shard t.new.book.items pass) where
  abbrev opening : Opening D
  opening = opening_of book (log ∷ [])

  started : t.old ≡ record { log = log; book = fresh_book opening.table opening.about 0; opened = log }
  started = old ∙ ap (λ (b : Booked). record { log = log; book = b; opened = log }) (fresh book only none)

  -- the book of this shard, which was compared with the pass
  its_time : (b : Booked) → b.shard ≡ 0 → IsTold b.shard b.items pass → (thread : Thread) → thread.end ≡ pass → (u : Thread) → IsOneOf u (thread ∷ []) → IsInTime 0 b.items u.end
  its_time b number told thread e u h = ⊎_elim
      (λ (is : u ≡ thread). subst (IsInTime 0 b.items) (sym (ap (λ (v : Thread). v.end) is ∙ e)) (in_time_told pass 0 b.items (subst (λ (k : ℕ). IsTold k b.items pass) number told)))
      (λ (n : ⊥). absurd n)
      h

  first : t.old.book.shard ≡ 0
  first = ap (λ (s : Sharded D). s.book.shard) old ∙ only

  pub turns_once : IsTurnedOnce sight follows opening t pass
  turns_once = record {
    within = λ f thread e. record {
      opened = log;
      opened_as = λ i. Some log;
      turned = started;
      moment = made;
      follow = f;
      in_time = its_time t.old.book first before thread e;
    };
    between = λ f thread e. record {
      opened = log;
      opened_as = λ i. Some log;
      turned = (started, made, refl);
      moment = tt;
      follow = f;
      in_time = its_time t.new.book ((same_book sight follows t made.turn).1 ∙ first) after thread e;
    };
  }
