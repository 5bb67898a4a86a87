-- A pass, from the opening to its end, has seen the steps that it made, and after them at most some of its open calls.
use Rattle.std.proofs.Common.{◌≡◌, ◌≢◌, ◌⊎◌, ℕ, ◌+◌, ◌<◌, ◌≤◌, Bool, true, false, List, [], ◌∷◌, ◌++◌, refl, sym, ap, ◌∙◌, subst, inl, inr, ⊎_elim, append-nil, Result, Ok, Err, slice_set}
use Rattle.std.specs.Result.{IsErrOf}
use Rattle.headline.proofs.Common.{Call, Reply, CallFault, PassClosed, InDoubt, Ask, Step, Item, About, Caller, Opening, IsLegalAt, IsAmong, AreAmong, steps_by, steps_on, seen_at, ask_of, HasStepsOf, Passed, is_closed_pass, HaveMet, fresh_pass, with_seen, IsAnswered, IsRefused, IsGiven, IsGivenAfter, next_step, shard_for, without_next, with_next, IsTold, What, Called, Looked, Met, Closed, Happening, Happens, HappenAfter, Thread, IsThread, IsLooked, IsMet, leaves_call_in_doubt, IsInTime, cases_eq, cases_lt, cases_Bool, false≢true, replicate_at, or_parts}
use Rattle.history.proofs.Past.{steps_append, steps_mine, on_here, on_else, among_left}
use Rattle.headline.proofs.Living.{IsSound, ClosedIf, goes, given_open, sound_on, fresh_sound}
use Rattle.headline.proofs.Owning.{HasOwn, told_in_time}

none_of : (steps : List Step) (asks : List Ask) → asks ≡ [] → AreAmong steps asks → steps ≡ []
none_of [] asks e h = refl
none_of (s ∷ steps) asks e h = absurd (subst (IsAmong s.ask) e h.0)

each_more : (steps : List Step) (asks more : List Ask) → ((a : Ask) → IsAmong a asks → IsAmong a more) → AreAmong steps asks → AreAmong steps more
each_more [] asks more into h = tt
each_more (s ∷ steps) asks more into h = (into s.ask h.0, each_more steps asks more into h.1)

-- what contracts say of the calls of one opening, from what a pass knows to what it knows then
module _ (old new : Passed) (k : ℕ) where
  -- it made no step
  keeps : new.caller.pass ≡ old.caller.pass → new.caller.about ≡ old.caller.about → new.caller.made ≡ old.caller.made → (rest : List Step) → steps_by old.caller.pass (seen_at new.caller k) ≡ steps_on old.caller.about k old.caller.made ++ rest
      → AreAmong rest new.caller.pending → HasOwn new.caller k
  keeps pass about made rest is among = record {
    rest = rest;
    is = ap (λ p. steps_by p (seen_at new.caller k)) pass ∙ is ∙ ap (λ l. steps_on old.caller.about k l ++ rest) (sym made) ∙ ap (λ a. steps_on a k new.caller.made ++ rest) (sym about);
    among = among;
  }

  -- and saw nothing more
  stays : new.caller.pass ≡ old.caller.pass → new.caller.about ≡ old.caller.about → new.caller.made ≡ old.caller.made → seen_at new.caller k ≡ seen_at old.caller k → ((a : Ask) → IsAmong a old.caller.pending → IsAmong a new.caller.pending)
      → HasOwn old.caller k → HasOwn new.caller k
  stays pass about made seen into own = keeps pass about made own.rest (ap (steps_by old.caller.pass) seen ∙ own.is) (each_more own.rest old.caller.pending new.caller.pending into own.among)

  -- a call is answered
  module _ (call : Call) (reply : Reply) (idle : old.caller.pending ≡ []) (is : IsAnswered old new call reply) (own : HasOwn old.caller k) where
    abbrev its : Step
    its = next_step old.caller call reply

    made_too : new.caller.made ≡ old.caller.made ++ its ∷ []
    made_too = ap (λ (x : Passed). x.caller.made) is.pass

    had : steps_by old.caller.pass (seen_at old.caller k) ≡ steps_on old.caller.about k old.caller.made
    had = own.is ∙ ap (λ l. steps_on old.caller.about k old.caller.made ++ l) (none_of own.rest old.caller.pending idle own.among) ∙ append-nil (steps_on old.caller.about k old.caller.made)

    more : steps_by old.caller.pass (seen_at new.caller (shard_for old.caller call)) ≡ steps_by old.caller.pass (seen_at old.caller (shard_for old.caller call)) ++ its ∷ []
    more =
        let p : ℕ = old.caller.pass in
        let seen : List Item = seen_at old.caller (shard_for old.caller call) in
        ap (steps_by p) is.extends.is
        ∙ steps_mine p (seen ++ is.extends.between) its refl
        ∙ ap (λ l. l ++ its ∷ []) (steps_append p seen is.extends.between ∙ ap (λ l. steps_by p seen ++ l) is.extends.none ∙ append-nil (steps_by p seen))

    -- of this shard it has one step more, of the others none
    has_now : steps_by old.caller.pass (seen_at new.caller k) ≡ steps_on old.caller.about k (old.caller.made ++ its ∷ [])
    has_now = ⊎_elim
        (λ (e : k ≡ shard_for old.caller call).
        subst (λ j. steps_by old.caller.pass (seen_at new.caller j) ≡ steps_by old.caller.pass (seen_at old.caller j) ++ its ∷ []) (sym e) more
        ∙ ap (λ l. l ++ its ∷ []) had ∙ sym (on_here old.caller.about k old.caller.made its e))
        (λ (n : k ≢ shard_for old.caller call). ap (steps_by old.caller.pass) (is.others k n) ∙ had ∙ sym (on_else old.caller.about k old.caller.made its n))
        (cases_eq k (shard_for old.caller call))

    answered : HasOwn new.caller k
    answered = record {
      rest = [];
      is = ap (λ p. steps_by p (seen_at new.caller k)) (ap (λ (x : Passed). x.caller.pass) is.pass)
          ∙ has_now
          ∙ ap (steps_on old.caller.about k) (sym made_too)
          ∙ ap (λ a. steps_on a k new.caller.made) (sym (ap (λ (x : Passed). x.caller.about) is.pass))
          ∙ sym (append-nil (steps_on new.caller.about k new.caller.made));
      among = tt;
    }

  dropped : new ≡ without_next old → old.caller.pending ≡ [] → HasOwn old.caller k → HasOwn new.caller k
  dropped is idle own = stays (ap (λ (p : Passed). p.caller.pass) is) (ap (λ (p : Passed). p.caller.about) is) (ap (λ (p : Passed). p.caller.made) is) (ap (λ (p : Passed). seen_at p.caller k) is) (λ a i. absurd (subst (IsAmong a) idle i)) own

  opened : (call : Call) → new.caller ≡ (with_next old call).caller → HasOwn old.caller k → HasOwn new.caller k
  opened call is own =
      stays (ap (λ (c : Caller). c.pass) is) (ap (λ (c : Caller). c.about) is) (ap (λ (c : Caller). c.made) is) (ap (λ (c : Caller). seen_at c k) is)
      (λ a i. subst (IsAmong a) (sym (ap (λ (c : Caller). c.pending) is)) (among_left a old.caller.pending (ask_of old.caller (old.caller.last + 1) call ∷ []) i))
      own

  refused : (call : Call) (fault : CallFault) → old.caller.pending ≡ [] ⊎ (fault ≡ PassClosed) → IsRefused old call new fault → HasOwn old.caller k → HasOwn new.caller k
  refused call PassClosed idle is own = subst (λ (p : Passed). HasOwn p.caller k) (sym is) own
  refused call InDoubt (inl idle) (inl is) own =
      stays (ap (λ (p : Passed). p.caller.pass) is) (ap (λ (p : Passed). p.caller.about) is) (ap (λ (p : Passed). p.caller.made) is) (ap (λ (p : Passed). seen_at p.caller k) is) (λ a i. absurd (subst (IsAmong a) idle i)) own
  refused call InDoubt (inl idle) (inr is) own = opened call (ap (λ (p : Passed). p.caller) is) own
  refused call fault (inl idle) is own = dropped is idle own
  refused call fault (inr e) is own = absurd (cc)

-- where all but what it has seen is as it was
module _ (old new : Passed) (seen : List (List Item)) (k : ℕ) (is : new ≡ record old { caller = with_seen old.caller seen }) where
  saw_steps : HasStepsOf old.caller k (seen_at new.caller k) → HasOwn new.caller k
  saw_steps h =
      keeps old new k (ap (λ (p : Passed). p.caller.pass) is) (ap (λ (p : Passed). p.caller.about) is) (ap (λ (p : Passed). p.caller.made) is) h.rest h.is (subst (AreAmong h.rest) (sym (ap (λ (p : Passed). p.caller.pending) is)) h.among)

  saw_nothing : seen_at new.caller k ≡ seen_at old.caller k → HasOwn old.caller k → HasOwn new.caller k
  saw_nothing e own =
      stays old new k (ap (λ (p : Passed). p.caller.pass) is) (ap (λ (p : Passed). p.caller.about) is) (ap (λ (p : Passed). p.caller.made) is) e (λ a i. subst (IsAmong a) (sym (ap (λ (p : Passed). p.caller.pending) is)) i) own

spent : (fault : CallFault) → IsErrOf {T = Reply} {E = CallFault} (Err fault) PassClosed → fault ≡ PassClosed
spent fault is = let same : Err fault ≡ Err PassClosed = is in cc

module _ {D : Type 0} (opening : Opening D) where
  -- a pass that is not closed waits for no answer, and one that is gets no answer
  idle_or : (old new : Passed) (call : Call) (fault : CallFault) → IsSound opening.about old → IsGiven old call (Err fault) new → (old.caller.pending ≡ []) ⊎ (fault ≡ PassClosed)
  idle_or old new call fault s is = ⊎_elim
      (λ (e : is_closed_pass old ≡ true). inr (spent fault (is.closed.1 e)))
      (λ (e : is_closed_pass old ≡ false). inl (s.idle (or_parts old.closed _ e).0))
      (cases_Bool (is_closed_pass old))

  given : (old new : Passed) (k : ℕ) (call : Call) (outcome : Result Reply CallFault) → IsSound opening.about old → IsGiven old call outcome new → HasOwn old.caller k → HasOwn new.caller k
  given old new k call (Ok reply) s is own = answered old new k call reply (s.idle (given_open opening old new call reply is)) is.answered own
  given old new k call (Err fault) s is own = refused old new k call fault (idle_or old new call fault s is) is.refused own

  given_after : (lost : Bool) (old new : Passed) (k : ℕ) (call : Call) (outcome : Result Reply CallFault) → IsSound opening.about old → IsGivenAfter lost old call outcome new → HasOwn old.caller k → HasOwn new.caller k
  given_after false old new k call outcome s is own = given old new k call outcome s is own
  given_after true old new k call outcome s (inl is) own = given old new k call outcome s is own
  given_after true old new k call outcome s (inr is) own = opened old new k call (ap (λ (p : Passed). p.caller) is.1) own

  looked : (old new : Passed) (j k : ℕ) → IsLooked opening old j new → HasOwn old.caller k → HasOwn new.caller k
  looked old new j k is own =
      let seen = slice_set old.caller.seen j (seen_at new.caller j) in
      ⊎_elim
      (λ (e : k ≡ j). subst (HasOwn new.caller) (sym e) (saw_steps old new seen j is.pass is.steps))
      (λ (n : k ≢ j). saw_nothing old new seen k is.pass (is.others k n) own)
      (cases_eq k j)

  met : (old new : Passed) (other : Caller) (theirs : List (List Item)) (k : ℕ) → IsMet opening old other theirs new → HasOwn old.caller k → HasOwn new.caller k
  met old new other theirs k is own = ⊎_elim
      (λ (m : HaveMet old.caller other opening.about.shards new.caller.seen theirs). ⊎_elim
      (λ (lt : k < opening.about.shards). saw_steps old new new.caller.seen k is.pass (m.below k lt).0.3)
      (λ (le : opening.about.shards ≤ k). saw_nothing old new new.caller.seen k is.pass (m.first_above k le) own)
      (cases_lt k opening.about.shards))
      (λ (m : HaveMet other old.caller opening.about.shards theirs new.caller.seen). ⊎_elim
      (λ (lt : k < opening.about.shards). saw_steps old new new.caller.seen k is.pass (subst (HasStepsOf old.caller k) (sym (m.below k lt).1) (m.below k lt).0.4))
      (λ (le : opening.about.shards ≤ k). saw_nothing old new new.caller.seen k is.pass (m.second_above k le) own)
      (cases_lt k opening.about.shards))
      is.met

  happens : (lost : Bool) (old new : Passed) (k : ℕ) (what : What) → IsSound opening.about old → Happens lost opening old what new → HasOwn old.caller k → HasOwn new.caller k
  happens lost old new k (Called call outcome) s is own = given_after lost old new k call outcome s is own
  happens lost old new k (Looked j) s is own = looked old new j k is own
  happens lost old new k (Met other theirs) s is own = met old new other theirs k is own
  happens lost old new k Closed s is own = subst (λ (p : Passed). HasOwn p.caller k) (sym is) own

  own_on : (lost : Bool) (start end : Passed) (hs : List Happening) (k : ℕ) → ClosedIf opening lost start → IsSound opening.about start → HasOwn start.caller k → HappenAfter lost opening start hs end → HasOwn end.caller k
  own_on lost start end [] k up s own is = subst (λ (p : Passed). HasOwn p.caller k) (sym is) own
  own_on lost start end (h ∷ hs) k up s own is =
      let before : IsSound opening.about h.before = subst (IsSound opening.about) (sym is.0) s in
      let g = goes opening lost h.before h.after h.what (λ e. ap (λ (p : Passed). p.closed) is.0 ∙ up e) before is.1 in
      own_on (leaves_call_in_doubt h.what) h.after end hs k g.closed g.sound (happens lost h.before h.after k h.what before is.1 (subst (λ (p : Passed). HasOwn p.caller k) (sym is.0) own)) is.2

  fresh_own : (p k : ℕ) → HasOwn (fresh_pass opening.table opening.about p).caller k
  fresh_own p k = record { rest = []; is = ap (steps_by p) (replicate_at {A = List Item} opening.about.shards k []); among = tt }

  -- a pass in time is told of a legal history
  pub thread_told : (t : Thread) (k : ℕ) (items : List Item) → IsThread opening t → IsLegalAt opening.about k items → IsInTime k items t.end → IsTold k items t.end
  thread_told t k items is legal in_time =
      let start : Passed = fresh_pass opening.table opening.about t.number in
      let sound = sound_on opening false start t.end t.happened (λ e. absurd (false≢true e)) (fresh_sound opening t.number) is.happen in
      told_in_time t.end k items (subst (λ (a : About). IsLegalAt a k items) (sym sound.about_is) legal)
      (own_on false start t.end t.happened k (λ e. absurd (false≢true e)) (fresh_sound opening t.number) (fresh_own t.number k) is.happen) in_time
