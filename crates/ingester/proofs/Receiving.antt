-- What comes of announced calls, taken in one after another, and of all calls so far.
use Rattle.std.proofs.Common.{◌≡◌, ℕ, zero, suc, ◌+◌, ◌-◌, ◌<◌, ◌≤◌, List, [], ◌∷◌, ◌++◌, true, false, length, inl, inr, refl, sym, ap, ◌∙◌, subst, ⊎_elim, append_assoc, append-nil, length-append, arith}
use Rattle.std.proofs.lemmas.Bool.{false≢true}
use Rattle.std.specs.Prelude.{Result, Ok, Err, All}
use Rattle.std.proofs.lemmas.List.{length_push, get_or-append-add}
use Rattle.accept.specs.Calls.{AreNumbers}
use Rattle.accept.specs.declared.call.Call.{Call}
use Rattle.accept.specs.declared.call.Reply.{Reply}
use Rattle.accept.specs.declared.history.Ask.{Ask}
use Rattle.history.specs.Histories.{behind_first, IsFirstNumber}
use Rattle.history.specs.Plays.{IsRested}
use Rattle.history.specs.Handles.{Passed}
use Rattle.owners.specs.Openings.{Opening}
use Rattle.accept.specs.declared.fault.CallFault.{CallFault}
use Rattle.accept.specs.declared.fault.CallFault.TheVariants.{Memory, LogSpent, PassClosed, InDoubt}
use Rattle.ingester.specs.Calls.{IsPassOf, IsRefused, AreGiven, with_next, closed_now}
use Rattle.ingester.specs.Batches.{doubts, IsTakenBack, AreAnnounced, AreCountedFrom, AreSomeOpen, IsCollected, IsWithdrawn, IsTaken, AreTaken, AreReceived, AreLost, AreEnded, IsNextRefused}
use Rattle.ingester.proofs.Chaining.{AreDone, taken_more, some_given, all_lost, given_append}

-- the first of the open calls waits, where fewer were taken in than are under way
pub first_waits_for : (n taken count : ℕ) (asks : List Ask) → AreCountedFrom n asks → length asks + taken ≡ count → taken < count → IsFirstNumber n asks
first_waits_for n taken count [] counted long fewer = absurd (omega arith)
first_waits_for n taken count (a ∷ asks) counted long fewer = counted.0

-- there is a place for another outcome
pub has_place : (len from had done count cap room : ℕ) → len + from ≡ had + done → done < count → had + count ≤ cap + from → room ≡ cap → len < room
has_place len from had done count cap room so_far fewer much same = omega arith

-- the first open call was taken in
pub record IsBehind (old new : Passed) : Type 0 where
  pub table : new.table ≡ old.table
  pub about : new.caller.about ≡ old.caller.about
  pub pass : new.caller.pass ≡ old.caller.pass
  pub pending : new.caller.pending ≡ behind_first old.caller.pending
  pub rested : IsRested old.caller → IsRested new.caller

-- calls were announced
pub record IsAhead (old new : Passed) : Type 0 where
  pub table : new.table ≡ old.table
  pub about : new.caller.about ≡ old.caller.about
  pub pass : new.caller.pass ≡ old.caller.pass
  pub rested : IsRested old.caller → IsRested new.caller

pub announced_ahead : (old new : Passed) (calls : List Call) → AreAnnounced old calls new → IsAhead old new
announced_ahead old new [] a = subst (IsAhead old) (sym a) (record { table = refl; about = refl; pass = refl; rested = λ (r : IsRested old.caller). r })
announced_ahead old new (call ∷ calls) a =
    let h = announced_ahead (with_next old call) new calls a.1 in
    record { table = h.table; about = h.about; pass = h.pass; rested = λ (r : IsRested old.caller). h.rested r }

pub numbered_behind : (n : ℕ) (asks : List Ask) → AreCountedFrom n asks → AreCountedFrom (n + 1) (behind_first asks)
numbered_behind n [] h = tt
numbered_behind n (a ∷ asks) h = h.1

length_behind : (asks : List Ask) → 0 < length asks → length (behind_first asks) + 1 ≡ length asks
length_behind [] some = absurd (omega arith)
length_behind (a ∷ asks) some = omega arith

-- one outcome more that is in doubt
pub doubts_more : (n : ℕ) → doubts (n + 1) ≡ doubts n ++ Err InDoubt ∷ []
doubts_more zero = refl
doubts_more (suc n) = let e : suc n + 1 ≡ suc (n + 1) = omega arith in ap doubts e ∙ ap (λ (l : List (Result Reply CallFault)). Err InDoubt ∷ l) (doubts_more n)

-- the table and the opening are as they were
pub record IsBack (old new : Passed) : Type 0 where
  pub table : new.table ≡ old.table
  pub about : new.caller.about ≡ old.caller.about
  pub pass : new.caller.pass ≡ old.caller.pass

-- a call that has no reply leaves the pass its number
pub refused_pass : (old new : Passed) (call : Call) (fault : CallFault) → IsRefused old call new fault → new.caller.pass ≡ old.caller.pass
refused_pass old new call Memory h = ap (λ (p : Passed). p.caller.pass) h
refused_pass old new call LogSpent h = ap (λ (p : Passed). p.caller.pass) h
refused_pass old new call PassClosed h = ap (λ (p : Passed). p.caller.pass) h
refused_pass old new call InDoubt (inl h) = ap (λ (p : Passed). p.caller.pass) h
refused_pass old new call InDoubt (inr h) = ap (λ (p : Passed). p.caller.pass) h

module _ {D : Type 0} (opening : Opening D) where
  pub taken_behind : (old new : Passed) (r : Result Reply CallFault) → IsTaken old new r → IsBehind old new
  taken_behind old new (Ok reply) h =
      let by : IsCollected old new h.first reply = h.by in
      subst (IsBehind old) (sym by.pass) (record { table = refl; about = refl; pass = refl; pending = refl; rested = λ (_ : IsRested old.caller). by.rested })
  taken_behind old new (Err fault) h =
      let by : IsWithdrawn old new h.first fault = h.by in
      subst (IsBehind old) (sym by.pass) (record { table = refl; about = refl; pass = refl; pending = refl; rested = λ (r : IsRested old.caller). r })

  -- the state of a pass while this many of its open calls are taken in
  pub record IsReceiving (pass : Passed) (n i count : ℕ) : Type 0 where
    pub numbers : AreCountedFrom (n + i) pass.caller.pending
    pub waiting : length pass.caller.pending + i ≡ count

  pub receiving_more : (old new : Passed) (n i count : ℕ) → IsBehind old new → AreCountedFrom (n + i) old.caller.pending → length old.caller.pending + i ≡ count → i < count → IsReceiving new n (i + 1) count
  receiving_more old new n i count b numbers waiting lt =
      let some : 0 < length old.caller.pending = omega arith in
      let less = length_behind old.caller.pending some in
      let here : length (behind_first old.caller.pending) + (i + 1) ≡ count = omega arith in
      let same : n + i + 1 ≡ n + (i + 1) = omega arith in
      record {
        numbers = subst (AreCountedFrom (n + (i + 1))) (sym b.pending) (subst (λ (m : ℕ). AreCountedFrom m (behind_first old.caller.pending)) same (numbered_behind (n + i) old.caller.pending numbers));
        waiting = ap (λ (l : List Ask). length l + (i + 1)) b.pending ∙ here;
      }

  -- one more came
  pub received_more : (old mid new : Passed) (before so_far after : List (Result Reply CallFault)) (count : ℕ) (r : Result Reply CallFault) → AreReceived old mid before so_far count → after ≡ so_far ++ r ∷ [] → IsTaken mid new r → AreReceived old new before after (count + 1)
  received_more old mid new before so_far after count r h is taken = record {
    came = h.came ++ r ∷ [];
    outcomes_are = is ∙ ap (λ (l : List (Result Reply CallFault)). l ++ r ∷ []) h.outcomes_are ∙ append_assoc before h.came (r ∷ []);
    counted = length_push h.came r ∙ ap (λ (n : ℕ). n + 1) h.counted;
    taken = taken_more opening old mid new h.came r h.taken taken;
  }

  -- these of the calls are left, and this came of the others
  pub record IsSoFar (start mid : Passed) (calls left : List Call) (outcomes : List (Result Reply CallFault)) : Type 0 where
    pub done : List Call
    pub calls_are : calls ≡ done ++ left
    pub given : AreGiven start done outcomes mid

  -- and the pass waits for no answer
  pub record IsGoing (start mid : Passed) (calls left : List Call) (outcomes : List (Result Reply CallFault)) : Type 0 where
    pub so_far : IsSoFar start mid calls left outcomes
    pub pass : IsPassOf opening mid

  none_left : (front done left : List Call) → front ≡ done ++ left → length done ≡ length front → left ≡ []
  none_left front done [] e n = refl
  none_left front done (c ∷ left) e n = let long : length front ≡ length done + length (c ∷ left) = ap length e ∙ length-append done (c ∷ left) in absurd (omega arith)

  pub is_taken_back : (old new : Passed) → IsTakenBack old new → IsBack old new
  is_taken_back old new (inl same) = subst (IsBack old) (sym same) (record { table = refl; about = refl; pass = refl })
  is_taken_back old new (inr taken) = subst (IsBack old) (sym taken.2) (record { table = refl; about = refl; pass = refl })

  -- what is lost of a round, and what came of the rest
  lost_more : (mid now back new : Passed) (left : List Call) (taken count : ℕ) → IsPassOf opening mid → AreAnnounced mid left now → IsTakenBack now back → new ≡ closed_now back → length left ≡ count - taken → taken < count → AreGiven mid left (doubts (count - taken)) new × IsPassOf opening new
  lost_more mid now back new [] taken count is a b closed n lt = absurd (omega arith)
  lost_more mid now back new (call ∷ calls) taken count is a b closed n lt =
      let ahead = announced_ahead mid now (call ∷ calls) a in
      let same = is_taken_back now back b in (
        subst (λ (m : ℕ). AreGiven mid (call ∷ calls) (doubts m) new) n (all_lost opening mid now back new call calls is a b closed),
        subst (IsPassOf opening) (sym closed) (record { table = same.table ∙ (ahead.table ∙ is.table); about = same.about ∙ (ahead.about ∙ is.about); idle = λ (e : true ≡ false). absurd (false≢true (sym e)) }),
      )

  taken_pass : (old new : Passed) (rs : List (Result Reply CallFault)) → AreTaken old rs new → new.caller.pass ≡ old.caller.pass
  taken_pass old new [] t = ap (λ (p : Passed). p.caller.pass) t
  taken_pass old new (r ∷ rs) t = taken_pass t.0 new rs t.2 ∙ (taken_behind old t.0 r t.1).pass

  -- a round leaves the pass its number
  pub ended_pass : (old new : Passed) (before after : List (Result Reply CallFault)) (count : ℕ) → AreEnded old new before after count → new.caller.pass ≡ old.caller.pass
  ended_pass old new before after count e = ⊎_elim
      (λ (t : (e.taken ≡ count) × (new ≡ e.mid) × (after ≡ e.between)). ap (λ (p : Passed). p.caller.pass) t.1)
      (λ (t : (e.taken < count) × AreLost e.mid new e.between after e.taken count). ap (λ (p : Passed). p.caller.pass) t.1.closed ∙ (is_taken_back e.mid t.1.mid t.1.back).pass)
      e.ends ∙ taken_pass old e.mid e.received.came e.received.taken

  -- what came of all calls of a round
  record IsRoundEnded (mid new : Passed) (front : List Call) (before after : List (Result Reply CallFault)) : Type 0 where
    pub came : List (Result Reply CallFault)
    pub outcomes_are : after ≡ before ++ came
    pub given : AreGiven mid front came new
    pub pass : IsPassOf opening new

  round_ends : (mid now new : Passed) (front : List Call) (came before after : List (Result Reply CallFault)) (count : ℕ) (e : AreEnded now new before after count) (done : AreDone opening mid front came e.mid) (r : AreReceived now e.mid before e.between e.taken) → length front ≡ count → length came ≡ e.taken → e.between ≡ before ++ came → IsRoundEnded mid new front before after
  round_ends mid now new front came before after count e done r many taken are = ⊎_elim
      (λ (t : (e.taken ≡ count) × (new ≡ e.mid) × (after ≡ e.between)).
      let all : length done.done ≡ length front = done.counted ∙ (taken ∙ (t.0 ∙ sym many)) in
      let none = none_left front done.done done.left done.calls_are all in
      let same : e.mid ≡ done.mid = subst (λ (l : List Call). AreAnnounced done.mid l e.mid) none done.announced in
      let fronts : done.done ≡ front = sym (append-nil done.done) ∙ (ap (λ (l : List Call). done.done ++ l) (sym none) ∙ sym done.calls_are) in
      record {
        came = came;
        outcomes_are = t.2 ∙ are;
        given = subst (λ (z : List Call × Passed). AreGiven mid z.0 came z.1) (λ i. (fronts i, (sym same ∙ sym t.1) i)) done.given;
        pass = subst (IsPassOf opening) (sym same ∙ sym t.1) done.pass;
      })
      (λ (t : (e.taken < count) × AreLost e.mid new e.between after e.taken count).
      let l = t.1 in
      let lt = t.0 in
      let long : length front ≡ length done.done + length done.left = ap length done.calls_are ∙ length-append done.done done.left in
      let counted = done.counted in
      let left : length done.left ≡ count - e.taken = omega arith in
      let lost = lost_more done.mid e.mid l.mid new done.left e.taken count done.pass done.announced l.back l.closed left lt in
      record {
        came = came ++ doubts (count - e.taken);
        outcomes_are = l.outcomes_are ∙ (ap (λ (x : List (Result Reply CallFault)). x ++ doubts (count - e.taken)) are ∙ append_assoc before came (doubts (count - e.taken)));
        given = subst (λ (x : List Call). AreGiven mid x (came ++ doubts (count - e.taken)) new) (sym done.calls_are) (given_append opening false mid done.mid new done.done done.left came (doubts (count - e.taken)) done.given lost.0);
        pass = lost.1;
      })
      e.ends

  -- some calls more at once
  pub round_more : (start mid now new : Passed) (calls left rest : List Call) (first count : ℕ) (before after : List (Result Reply CallFault)) → IsSoFar start mid calls left before → IsPassOf opening mid → AreSomeOpen mid now left rest first count → AreEnded now new before after count → IsGoing start new calls rest after
  round_more start mid now new calls left rest first count before after so_far is h e =
      let r = e.received in
      let few : length r.came ≤ length h.front = ⊎_elim
      (λ (t : (e.taken ≡ count) × (new ≡ e.mid) × (after ≡ e.between)). let one = t.0 in let two = r.counted in let three = h.counted in omega arith)
      (λ (t : (e.taken < count) × AreLost e.mid new e.between after e.taken count). let one = t.0 in let two = r.counted in let three = h.counted in omega arith)
      e.ends in
      let done = some_given opening mid now e.mid h.front r.came is h.rested h.announced r.taken few in
      let ended = round_ends mid now new h.front r.came before after count e done r h.counted r.counted r.outcomes_are in
      record {
        so_far = record {
          done = so_far.done ++ h.front;
          calls_are = so_far.calls_are ∙ ap (λ (l : List Call). so_far.done ++ l) h.calls_are ∙ sym (append_assoc so_far.done h.front rest);
          given = subst (λ (l : List (Result Reply CallFault)). AreGiven start (so_far.done ++ h.front) l new) (sym ended.outcomes_are) (given_append opening false start mid new so_far.done h.front before ended.came so_far.given ended.given);
        };
        pass = ended.pass;
      }

  -- one call more, which is refused
  pub refused_more : (start mid new : Passed) (calls left rest : List Call) (before after : List (Result Reply CallFault)) (fault : CallFault) → IsSoFar start mid calls left before → IsNextRefused opening mid new left rest fault → after ≡ before ++ Err fault ∷ [] → IsGoing start new calls rest after
  refused_more start mid new calls left rest before after fault so_far h is = record {
    so_far = record {
      done = so_far.done ++ h.call ∷ [];
      calls_are = so_far.calls_are ∙ ap (λ (l : List Call). so_far.done ++ l) h.calls_are ∙ sym (append_assoc so_far.done (h.call ∷ []) rest);
      given = subst (λ (l : List (Result Reply CallFault)). AreGiven start (so_far.done ++ h.call ∷ []) l new) (sym is) (given_append opening false start mid new so_far.done (h.call ∷ []) before (Err fault ∷ []) so_far.given (new, h.given, refl));
    };
    pass = h.pass;
  }

-- what holds of all calls holds of those that are left
pub rest_numbers : (calls front rest : List Call) → calls ≡ front ++ rest → All AreNumbers calls → All AreNumbers rest
rest_numbers calls front rest is all k d lt =
    let here : All AreNumbers (front ++ rest) = subst (All AreNumbers) is all in
    let long = length-append front rest in
    subst AreNumbers (get_or-append-add front rest k d) (here (length front + k) d (omega arith))
