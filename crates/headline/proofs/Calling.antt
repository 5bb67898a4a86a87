-- Each step of a pass is of a call that it made.
use Rattle.std.proofs.Common.{◌≡◌, ℕ, ◌+◌, ◌<◌, Bool, true, false, cond, eqb, List, [], ◌∷◌, ◌++◌, refl, sym, ap, ◌∙◌, subst, inl, inr, ⊎_elim, append_assoc, eq-eqb, Result, Ok, Err, flat_map}
use Rattle.headline.proofs.Common.{Call, Reply, CallFault, PassClosed, InDoubt, Ask, Step, Item, Answered, Failed, About, Opening, IsByPasses, IsAmong, AreAmong, behind_first, shard_in, steps_by, steps_on, HasStepsOf, ask_of, Passed, fresh_pass, IsAnswered, IsRefused, IsGiven, IsGivenAfter, next_step, What, Called, Looked, Met, Closed, Happening, Happens, HappenAfter, Thread, IsThread, leaves_call_in_doubt, calls_by_what, happened_to, calls_made_by, IsOneOf, HaveThreads, WasCalled, false≢true, among_left, among_right, among_split, cond_both}
use Rattle.headline.proofs.Living.{grows_on, fresh_sound}

behind_among : (a : Ask) (asks : List Ask) → IsOneOf a (behind_first asks) → IsOneOf a asks
behind_among a [] one = one
behind_among a (b ∷ asks) one = inr one

-- of the calls that a pass made, each has its step, is open, or is neither
record AreCalls (asks : List Ask) (pass : Passed) : Type 0 where
  pub made : (s : Step) → IsOneOf s pass.caller.made → IsOneOf s.ask asks
  pub pending : (a : Ask) → IsOneOf a pass.caller.pending → IsOneOf a asks

module _ (asks : List Ask) (old new : Passed) (c : AreCalls asks old) where
  -- it has no other step
  same_steps : new.caller.made ≡ old.caller.made → ((a : Ask) → IsOneOf a new.caller.pending → IsOneOf a asks) → AreCalls asks new
  same_steps made pending = record { made = λ s one. c.made s (subst (IsOneOf s) made one); pending = pending }

  kept : new.caller.made ≡ old.caller.made → new.caller.pending ≡ old.caller.pending → AreCalls asks new
  kept made pending = same_steps made (λ a one. c.pending a (subst (IsOneOf a) pending one))

  dropped : new.caller.made ≡ old.caller.made → new.caller.pending ≡ [] → AreCalls asks new
  dropped made pending = same_steps made (λ a one. absurd (subst (IsOneOf a) pending one))

  -- this call is open besides
  open_too : (ask : Ask) → IsOneOf ask asks → (a : Ask) → IsOneOf a (old.caller.pending ++ ask ∷ []) → IsOneOf a asks
  open_too ask its a one = ⊎_elim
      (λ (l : IsOneOf a old.caller.pending). c.pending a l)
      (λ (r : IsOneOf a (ask ∷ [])). ⊎_elim (λ (e : a ≡ ask). subst (λ (b : Ask). IsOneOf b asks) (sym e) its) (λ (n : ⊥). absurd n) r)
      (among_split a old.caller.pending (ask ∷ []) one)

  opened : (call : Call) → IsOneOf (ask_of old.caller (old.caller.last + 1) call) asks → new.caller.made ≡ old.caller.made → new.caller.pending ≡ old.caller.pending ++ ask_of old.caller (old.caller.last + 1) call ∷ [] → AreCalls asks new
  opened call its made pending = same_steps made (λ a one. open_too (ask_of old.caller (old.caller.last + 1) call) its a (subst (IsOneOf a) pending one))

  answered : (call : Call) (reply : Reply) → IsOneOf (ask_of old.caller (old.caller.last + 1) call) asks → IsAnswered old new call reply → AreCalls asks new
  answered call reply its is =
      let ask : Ask = ask_of old.caller (old.caller.last + 1) call in
      let step : Step = next_step old.caller call reply in
      record {
        made = λ s one. ⊎_elim
            (λ (l : IsOneOf s old.caller.made). c.made s l)
            (λ (r : IsOneOf s (step ∷ [])). ⊎_elim (λ (e : s ≡ step). subst (λ (t : Step). IsOneOf t.ask asks) (sym e) its) (λ (n : ⊥). absurd n) r)
            (among_split s old.caller.made (step ∷ []) (subst (IsOneOf s) (ap (λ (p : Passed). p.caller.made) is.pass) one));
        pending = λ a one. open_too ask its a (behind_among a (old.caller.pending ++ ask ∷ []) (subst (IsOneOf a) (ap (λ (p : Passed). p.caller.pending) is.pass) one));
      }

  refused : (call : Call) (fault : CallFault) → IsOneOf (ask_of old.caller (old.caller.last + 1) call) asks → IsRefused old call new fault → AreCalls asks new
  refused call PassClosed its is = kept (ap (λ (p : Passed). p.caller.made) is) (ap (λ (p : Passed). p.caller.pending) is)
  refused call InDoubt its (inl is) = dropped (ap (λ (p : Passed). p.caller.made) is) (ap (λ (p : Passed). p.caller.pending) is)
  refused call InDoubt its (inr is) = opened call its (ap (λ (p : Passed). p.caller.made) is) (ap (λ (p : Passed). p.caller.pending) is)
  refused call fault its is = dropped (ap (λ (p : Passed). p.caller.made) is) (ap (λ (p : Passed). p.caller.pending) is)

  given : (call : Call) (outcome : Result Reply CallFault) → IsOneOf (ask_of old.caller (old.caller.last + 1) call) asks → IsGiven old call outcome new → AreCalls asks new
  given call (Ok reply) its is = answered call reply its is.answered
  given call (Err fault) its is = refused call fault its is.refused

  given_after : (lost : Bool) (call : Call) (outcome : Result Reply CallFault) → IsOneOf (ask_of old.caller (old.caller.last + 1) call) asks → IsGivenAfter lost old call outcome new → AreCalls asks new
  given_after false call outcome its is = given call outcome its is
  given_after true call outcome its (inl is) = given call outcome its is
  given_after true call outcome its (inr is) = opened call its (ap (λ (p : Passed). p.caller.made) is.1) (ap (λ (p : Passed). p.caller.pending) is.1)

module _ {D : Type 0} (opening : Opening D) (asks : List Ask) where
  one_more : (lost : Bool) (old new : Passed) (what : What) → ((a : Ask) → IsOneOf a (calls_by_what old.caller what) → IsOneOf a asks) → AreCalls asks old → Happens lost opening old what new → AreCalls asks new
  one_more lost old new (Called call outcome) all c is = given_after asks old new c lost call outcome (all (ask_of old.caller (old.caller.last + 1) call) (inl refl)) is
  one_more lost old new (Looked k) all c is = kept asks old new c (ap (λ (p : Passed). p.caller.made) is.pass) (ap (λ (p : Passed). p.caller.pending) is.pass)
  one_more lost old new (Met other theirs) all c is = kept asks old new c (ap (λ (p : Passed). p.caller.made) is.pass) (ap (λ (p : Passed). p.caller.pending) is.pass)
  one_more lost old new Closed all c is = kept asks old new c (ap (λ (p : Passed). p.caller.made) is) (ap (λ (p : Passed). p.caller.pending) is)

  to_the_end : (lost : Bool) (start end : Passed) (hs : List Happening) → ((a : Ask) → IsOneOf a (flat_map (λ h. calls_by_what h.before.caller h.what) hs) → IsOneOf a asks) → AreCalls asks start → HappenAfter lost opening start hs end → AreCalls asks end
  to_the_end lost start end [] all c is = subst (AreCalls asks) (sym is) c
  to_the_end lost start end (h ∷ hs) all c is =
      let here : List Ask = calls_by_what h.before.caller h.what in
      let rest : List Ask = flat_map (λ (g : Happening). calls_by_what g.before.caller g.what) hs in
      to_the_end (leaves_call_in_doubt h.what) h.after end hs (λ a one. all a (among_right a here rest one))
      (one_more lost h.before h.after h.what (λ a one. all a (among_left a here rest one)) (subst (AreCalls asks) (sym is.0) c) is.1)
      is.2

-- a step of a pass among these items
pub step_by : (p : ℕ) (s : Step) (items : List Item) → p ≡ s.ask.pass → IsOneOf (Answered s) items → IsOneOf s (steps_by p items)
step_by p s [] e one = absurd one
step_by p s (Failed asks ∷ items) e one = ⊎_elim (λ (f : Answered s ≡ Failed asks). absurd (cc)) (λ (t : IsOneOf (Answered s) items). step_by p s items e t) one
step_by p s (Answered r ∷ items) e one = ⊎_elim
    (λ (f : Answered s ≡ Answered r).
    let same : s ≡ r = cc in
    let his : eqb p r.ask.pass ≡ true = eq-eqb p r.ask.pass (e ∙ ap (λ (t : Step). t.ask.pass) same) in
    subst (λ (b : Bool). IsOneOf s (cond b (r ∷ steps_by p items) (steps_by p items))) (sym his) (inl same))
    (λ (t : IsOneOf (Answered s) items). cond_both (eqb p r.ask.pass) (r ∷ steps_by p items) (steps_by p items) (IsOneOf s) (λ f. inr (step_by p s items e t)) (λ f. step_by p s items e t))
    one

pub step_on : (about : About) (k : ℕ) (s : Step) (steps : List Step) → IsOneOf s (steps_on about k steps) → IsOneOf s steps
step_on about k s [] one = one
step_on about k s (r ∷ steps) one = here (eqb k (shard_in about r.ask)) (step_on about k s steps) one
  where
    here : (b : Bool) → (IsOneOf s (steps_on about k steps) → IsOneOf s steps) → IsOneOf s (cond b (r ∷ steps_on about k steps) (steps_on about k steps)) → IsOneOf s (r ∷ steps)
    here true rest (inl e) = inl e
    here true rest (inr t) = inr (rest t)
    here false rest t = inr (rest t)

one_among : (a : Ask) (asks : List Ask) → IsAmong a asks → IsOneOf a asks
one_among a [] i = i
one_among a (b ∷ asks) (inl e) = inl (sym e)
one_among a (b ∷ asks) (inr i) = inr (one_among a asks i)

-- each of these steps is of an open call
pub open_one : (s : Step) (steps : List Step) (asks : List Ask) → AreAmong steps asks → IsOneOf s steps → IsAmong s.ask asks
open_one s [] asks i one = absurd one
open_one s (r ∷ steps) asks i one = ⊎_elim
    (λ (e : s ≡ r). subst (λ (t : Step). IsAmong t.ask asks) (sym e) i.0)
    (λ (t : IsOneOf s steps). open_one s steps asks i.1 t)
    one

called_step : (asks : List Ask) (pass : Passed) (k : ℕ) (items : List Item) (s : Step) → AreCalls asks pass → HasStepsOf pass.caller k items → pass.caller.pass ≡ s.ask.pass → IsOneOf (Answered s) items → IsOneOf s.ask asks
called_step asks pass k items s c has his one =
    let made : List Step = steps_on pass.caller.about k pass.caller.made in
    ⊎_elim
    (λ (l : IsOneOf s made). c.made s (step_on pass.caller.about k s pass.caller.made l))
    (λ (r : IsOneOf s has.rest). c.pending s.ask (one_among s.ask pass.caller.pending (open_one s has.rest pass.caller.pending has.among r)))
    (among_split s made has.rest (subst (IsOneOf s) has.is (step_by pass.caller.pass s items his one)))

pass_below : (n : ℕ) (s : Step) (items : List Item) → IsByPasses n items → IsOneOf (Answered s) items → s.ask.pass < n
pass_below n s [] by one = absurd one
pass_below n s (Failed asks ∷ items) by one = ⊎_elim (λ (f : Answered s ≡ Failed asks). absurd (cc)) (λ (t : IsOneOf (Answered s) items). pass_below n s items by.1 t) one
pass_below n s (Answered r ∷ items) by one = ⊎_elim
    (λ (f : Answered s ≡ Answered r). let same : s ≡ r = cc in subst (λ (t : Step). t.ask.pass < n) (sym same) by.0)
    (λ (t : IsOneOf (Answered s) items). pass_below n s items by.1 t)
    one

-- a call of one pass is one of all calls
call_of_all : (t : Thread) (threads : List Thread) (a : Ask) → IsOneOf t threads → IsOneOf a (flat_map (λ h. calls_by_what h.before.caller h.what) t.happened) → IsOneOf a (calls_made_by threads)
call_of_all t [] a of one = absurd of
call_of_all t (u ∷ threads) a of one = subst (IsOneOf a) (sym (parts u.happened (happened_to threads))) (⊎_elim
    (λ (e : t ≡ u). among_left a (made u.happened) (calls_made_by threads) (subst (λ (v : Thread). IsOneOf a (made v.happened)) e one))
    (λ (r : IsOneOf t threads). among_right a (made u.happened) (calls_made_by threads) (call_of_all t threads a r one))
    of)
  where
    made : List Happening → List Ask
    made hs = flat_map (λ h. calls_by_what h.before.caller h.what) hs

    parts : (xs ys : List Happening) → made (xs ++ ys) ≡ made xs ++ made ys
    parts [] ys = refl
    parts (x ∷ xs) ys = ap (λ l. calls_by_what x.before.caller x.what ++ l) (parts xs ys) ∙ sym (append_assoc (calls_by_what x.before.caller x.what) (made xs) (made ys))

-- where each pass has a thread, each step is of a call that one made
pub step_called : {D : Type 0} (opening : Opening D) (threads : List Thread) (k : ℕ) (items : List Item) → ((t : Thread) → IsOneOf t threads → IsThread opening t) → ((t : Thread) → IsOneOf t threads → HasStepsOf t.end.caller k items) → IsByPasses opening.about.passes items
    → HaveThreads opening.about.passes threads → (s : Step) → IsOneOf (Answered s) items → WasCalled threads s.ask
step_called opening threads k items threads_are has by have s one =
    let t = have s.ask.pass (pass_below opening.about.passes s items by one) in
    let start : Passed = fresh_pass opening.table opening.about t.0.number in
    let its = threads_are t.0 t.1 in
    let grown = grows_on opening false start t.0.end t.0.happened (λ e. absurd (false≢true e)) (fresh_sound opening t.0.number) its.happen in
    called_step (calls_made_by threads) t.0.end k items s
    (to_the_end opening (calls_made_by threads) false start t.0.end t.0.happened (λ a of. call_of_all t.0 threads a t.1 of) (record { made = λ r n. absurd n; pending = λ a n. absurd n }) its.happen)
    (has t.0 t.1)
    (grown.pass ∙ t.2)
    one
