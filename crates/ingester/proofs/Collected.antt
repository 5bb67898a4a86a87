-- What comes of a pass's open calls on one shard, taken in one after another.
use Rattle.std.proofs.Common.{◌≡◌, ℕ, zero, suc, ◌+◌, ◌<◌, List, [], ◌∷◌, ◌++◌, length, refl, sym, ap, ◌∙◌, subst, append_assoc, arith, slice_index_or}
use Rattle.std.specs.Prelude.{drop, Result, Ok, Err}
use Rattle.std.proofs.lemmas.List.{length_push}
use Rattle.accept.specs.declared.call.Reply.{Reply}
use Rattle.accept.specs.declared.history.Ask.{Ask}
use Rattle.accept.specs.declared.fault.CallFault.{CallFault}
use Rattle.history.specs.declared.views.Caller.{Caller}
use Rattle.history.specs.Histories.{IsFirstNumber, behind_first, behind_on, asks_on}
use Rattle.history.specs.Plays.{IsRestedAt, IsNextOn}
use Rattle.history.specs.Handles.{Passed}
use Rattle.history.proofs.Past.{left_here}
use Rattle.ingester.specs.Collected.{asks_numbers, HasOpenThere, IsCollectedThere, IsWithdrawnThere, IsTakenOn, AreTakenOn, AreReceivedOn}

-- the first open call of shard k was taken in
pub record IsBehindOn (k : ℕ) (old new : Passed) : Type 0 where
  pub table : new.table ≡ old.table
  pub about : new.caller.about ≡ old.caller.about
  pub pass : new.caller.pass ≡ old.caller.pass
  pub pending : new.caller.pending ≡ behind_on old.caller.about k old.caller.pending
  pub rested : IsRestedAt old.caller k → IsRestedAt new.caller k

pub taken_behind_on : (k : ℕ) (old new : Passed) (r : Result Reply CallFault) → IsTakenOn k old new r → IsBehindOn k old new
taken_behind_on k old new (Ok reply) h =
    let by : IsCollectedThere old new h.first reply = h.by in
    subst (IsBehindOn k old) (sym by.pass) (record { table = refl; about = refl; pass = refl; pending = ap (λ (j : ℕ). behind_on old.caller.about j old.caller.pending) (sym h.here); rested = by.rested.1 k })
taken_behind_on k old new (Err fault) h =
    let by : IsWithdrawnThere old new h.first fault = h.by in
    subst (IsBehindOn k old) (sym by.pass) (record { table = refl; about = refl; pass = refl; pending = ap (λ (j : ℕ). behind_on old.caller.about j old.caller.pending) (sym h.here); rested = λ (r : IsRestedAt old.caller k). r })

unfoldable tail_of : List ℕ → List ℕ
tail_of [] = []
tail_of (n ∷ ns) = ns

first_at : (ns : List ℕ) (i : ℕ) (asks : List Ask) → asks_numbers asks ≡ drop i ns → i < length ns → IsFirstNumber (slice_index_or ns i 0) asks
first_at [] i asks e lt = absurd (omega arith)
first_at (n ∷ ns) zero [] e lt = absurd (let long = ap length e in omega arith)
first_at (n ∷ ns) zero (a ∷ asks) e lt = ap (λ (l : List ℕ). slice_index_or l 0 0) e
first_at (n ∷ ns) (suc i) asks e lt = first_at ns i asks e (omega arith)

tail_drop : (ns : List ℕ) (i : ℕ) → tail_of (drop i ns) ≡ drop (suc i) ns
unfolding tail_of
tail_drop [] zero = refl
tail_drop [] (suc i) = refl
tail_drop (n ∷ ns) zero = refl
tail_drop (n ∷ ns) (suc i) = tail_drop ns i

tail_numbers : (asks : List Ask) → asks_numbers (behind_first asks) ≡ tail_of (asks_numbers asks)
unfolding tail_of
tail_numbers [] = refl
tail_numbers (a ∷ asks) = refl

-- the next one
pub next_on : (c : Caller) (k i : ℕ) (numbers : List ℕ) → HasOpenThere c k (drop i numbers) → i < length numbers → IsNextOn c (slice_index_or numbers i 0) k
next_on c k i numbers h lt = (first_at numbers i (asks_on c.about k c.pending) h.numbers_are lt, h.rested)

-- those that are left
pub open_more : (k i : ℕ) (old new : Passed) (numbers : List ℕ) → IsBehindOn k old new → HasOpenThere old.caller k (drop i numbers) → HasOpenThere new.caller k (drop (i + 1) numbers)
open_more k i old new numbers b h =
    let c = old.caller in
    let same : asks_on new.caller.about k new.caller.pending ≡ behind_first (asks_on c.about k c.pending) = (λ j. asks_on (b.about j) k (b.pending j)) ∙ left_here c.about k c.pending in
    let one : suc i ≡ i + 1 = omega arith in
    record {
      numbers_are = ap asks_numbers same ∙ tail_numbers (asks_on c.about k c.pending) ∙ ap tail_of h.numbers_are ∙ tail_drop numbers i ∙ ap (λ (n : ℕ). drop n numbers) one;
      rested = b.rested h.rested;
    }

taken_on_more : (k : ℕ) (old mid new : Passed) (rs : List (Result Reply CallFault)) (r : Result Reply CallFault) → AreTakenOn k old rs mid → IsTakenOn k mid new r → AreTakenOn k old (rs ++ r ∷ []) new
taken_on_more k old mid new [] r a h = (new, subst (λ (p : Passed). IsTakenOn k p new r) a h, refl)
taken_on_more k old mid new (s ∷ rs) r a h = (a.0, a.1, taken_on_more k a.0 mid new rs r a.2 h)

-- one more came
pub received_on_more : (k : ℕ) (old mid new : Passed) (before so_far after : List (Result Reply CallFault)) (count : ℕ) (r : Result Reply CallFault) → AreReceivedOn k old mid before so_far count → after ≡ so_far ++ r ∷ [] → IsTakenOn k mid new r → AreReceivedOn k old new before after (count + 1)
received_on_more k old mid new before so_far after count r h is taken = record {
  came = h.came ++ r ∷ [];
  outcomes_are = is ∙ ap (λ (l : List (Result Reply CallFault)). l ++ r ∷ []) h.outcomes_are ∙ append_assoc before h.came (r ∷ []);
  counted = length_push h.came r ∙ ap (λ (n : ℕ). n + 1) h.counted;
  taken = taken_on_more k old mid new h.came r h.taken taken;
}
