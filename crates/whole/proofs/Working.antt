-- What the visits of workers make happens to their passes.
use Rattle.std.proofs.Common.{◌≡◌, ◌⊎◌, ℕ, Bool, true, false, List, [], ◌∷◌, ◌++◌, map, Result, Ok, Err, refl, sym, ap, ◌∙◌, subst, inl, inr, ⊎_elim, append_assoc, append-nil}
use Rattle.std.proofs.lemmas.List.{map-append}
use Rattle.headline.proofs.Common.{Call, Reply, CallFault, InDoubt, Step, Opening, Passed, fresh_pass, IsGiven, IsGivenAfter, IsRefused, What, Called, Looked, Met, Closed, Happening, Happens, HappenAfter, Thread, IsThread, leaves_call_in_doubt, answers_by, happened_to, IsOneOf, among_split}
use Rattle.whole.proofs.Common.{Known, known, Visit, AreVisits, Worker, IsWorker, IsThreadOf, AreThreadsOf, visits_by, its_step, steps_among, IsAskedIn}
use Rattle.whole.proofs.Happening.{HappenFrom, into_left, into_right, one_of_both, both, nothing, went_on}
use Rattle.whole.proofs.Visiting.{Answers, Happened, called_more, happened_of}

-- what a pass has made is what was answered to it
module _ {D : Type 0} (opening : Opening D) where
  refused_made : (old new : Passed) (call : Call) (fault : CallFault) → IsRefused old call new fault → new.caller.made ≡ old.caller.made
  refused_made old new call InDoubt (inl withdrawn) = ap (λ p. p.caller.made) withdrawn
  refused_made old new call InDoubt (inr stays) = ap (λ p. p.caller.made) stays
  refused_made old new call fault is = ap (λ p. p.caller.made) is

  given_made : (old new : Passed) (call : Call) (outcome : Result Reply CallFault) → IsGiven old call outcome new → new.caller.made ≡ old.caller.made ++ map its_step (answers_by old.caller (Called call outcome))
  given_made old new call (Ok reply) is = ap (λ p. p.caller.made) is.answered.pass
  given_made old new call (Err fault) is = refused_made old new call fault is.refused ∙ sym (append-nil old.caller.made)

  after_made : (lost : Bool) (old new : Passed) (call : Call) (outcome : Result Reply CallFault) → IsGivenAfter lost old call outcome new → new.caller.made ≡ old.caller.made ++ map its_step (answers_by old.caller (Called call outcome))
  after_made false old new call outcome is = given_made old new call outcome is
  after_made true old new call outcome (inl is) = given_made old new call outcome is
  after_made true old new call (Ok reply) (inr is) = absurd (let never = is.0 in cc)
  after_made true old new call (Err fault) (inr is) = ap (λ p. p.caller.made) is.1 ∙ sym (append-nil old.caller.made)

  one_made : (lost : Bool) (old new : Passed) (what : What) → Happens lost opening old what new → new.caller.made ≡ old.caller.made ++ map its_step (answers_by old.caller what)
  one_made lost old new (Called call outcome) is = after_made lost old new call outcome is
  one_made lost old new (Looked k) is = ap (λ p. p.caller.made) is.pass ∙ sym (append-nil old.caller.made)
  one_made lost old new (Met other theirs) is = ap (λ p. p.caller.made) is.pass ∙ sym (append-nil old.caller.made)
  one_made lost old new Closed is = ap (λ p. p.caller.made) is ∙ sym (append-nil old.caller.made)

  pub made_of : (lost : Bool) (start end : Passed) (hs : List Happening) → HappenAfter lost opening start hs end → end.caller.made ≡ start.caller.made ++ steps_among hs
  made_of lost start end [] same = ap (λ p. p.caller.made) same ∙ sym (append-nil start.caller.made)
  made_of lost start end (h ∷ hs) (is, happens, others) =
      let first : List Step = map its_step (answers_by h.before.caller h.what) in
      let here : h.after.caller.made ≡ start.caller.made ++ first = one_made lost h.before h.after h.what happens ∙ ap (λ p. p.caller.made ++ first) is in
      let rest : steps_among (h ∷ hs) ≡ first ++ steps_among hs = map-append its_step (answers_by h.before.caller h.what) _ in
      made_of (leaves_call_in_doubt h.what) h.after end hs others ∙ ap (λ l. l ++ steps_among hs) here ∙ append_assoc start.caller.made first (steps_among hs) ∙ ap (λ l. start.caller.made ++ l) (sym rest)

module _ {C : Type 0} (ticks : C → ℕ → C → Type 0) where
  pub answers_more : (v : Visit C) (steps more : List Step) → ((s : Step) → IsOneOf s steps → IsOneOf s more) → Answers ticks v steps → Answers ticks v more
  answers_more v steps more into a = record {
    exchanges = a.exchanges;
    mid = a.mid;
    between = a.between;
    serves = a.serves;
    last = a.last;
    refusal = a.refusal;
    some = a.some;
    next = a.next;
    is = a.is;
    left = a.left;
    calls = λ e one. called_more steps more e into (a.calls e one);
  }

  -- one of these visits has a request that asks for the call of a step
  abbrev pub IsAskedAmong : List (Visit C) → Step → Type 0
  IsAskedAmong vs s = (v : Visit C) × IsOneOf v vs × IsAskedIn (v.held ++ v.taken) s.ask.call

  module _ {D : Type 0} (opening : Opening D) where
    -- visits of a worker
    record Visited (start : Known Passed) (vs : List (Visit C)) (end : Known Passed) : Type 0 where
      pub happened : List Happening
      pub happen : HappenFrom opening start happened end
      pub answers : (v : Visit C) → IsOneOf v vs → Answers ticks v (steps_among happened)
      pub asked : (s : Step) → IsOneOf s (steps_among happened) → IsAskedAmong vs s

    visited : (start : Known Passed) (vs : List (Visit C)) (end : Known Passed) → AreVisits ticks start vs end → Visited start vs end
    visited start [] end same = record { happened = []; happen = nothing opening start end same; answers = λ v one. absurd one; asked = λ s one. absurd one }
    visited start (v ∷ vs) end (goes_on, made, others) =
        let first : Happened ticks opening v = happened_of ticks opening v made in
        let more = visited v.after.knows vs end others in
        let all : List Happening = first.happened ++ more.happened in
        record {
          happened = all;
          happen = both opening start v.before.knows end [] all (went_on opening start v.before.knows goes_on) (both opening v.before.knows v.after.knows end first.happened more.happened first.happen more.happen);
          answers = λ u one. ⊎_elim
              (λ (e : u ≡ v). subst (λ x. Answers ticks x (steps_among (first.happened ++ more.happened))) (sym e) (answers_more v (steps_among first.happened) (steps_among (first.happened ++ more.happened)) (into_left first.happened more.happened) first.answers))
              (λ (t : IsOneOf u vs). answers_more u (steps_among more.happened) (steps_among (first.happened ++ more.happened)) (into_right first.happened more.happened) (more.answers u t))
              one;
          asked = λ s one. ⊎_elim
              (λ (l : IsOneOf s (steps_among first.happened)). (v, inl refl, first.asked s l))
              (λ (r : IsOneOf s (steps_among more.happened)). let it = more.asked s r in (it.0, inr it.1, it.2))
              (one_of_both first.happened more.happened s one);
        }

    -- a worker has a thread
    pub record Threaded (w : Worker C) : Type 0 where
      pub thread : Thread
      pub is_of : IsThreadOf w thread
      pub is_thread : IsThread opening thread
      pub answers : (v : Visit C) → IsOneOf v w.visits → Answers ticks v (steps_among thread.happened)
      pub asked : (s : Step) → IsOneOf s (steps_among thread.happened) → IsAskedAmong w.visits s ⊎ IsOneOf s (steps_among w.since)

    threaded : (w : Worker C) → IsWorker ticks opening w → Threaded w
    threaded w is =
        let start : Known Passed = known (fresh_pass opening.table opening.about w.number) false in
        let its = visited start w.visits is.between is.visits in
        record {
          thread = record { number = w.number; happened = its.happened ++ w.since; end = w.end };
          is_of = record { number = refl; end = refl; first = its.happened; happened = refl };
          is_thread = record { happen = its.happen w.since w.end (is.since is.between.doubt) };
          answers = λ v one. answers_more v (steps_among its.happened) (steps_among (its.happened ++ w.since)) (into_left its.happened w.since) (its.answers v one);
          asked = λ s one. ⊎_elim
              (λ (l : IsOneOf s (steps_among its.happened)). inl (its.asked s l))
              (λ (r : IsOneOf s (steps_among w.since)). inr r)
              (one_of_both its.happened w.since s one);
        }

    -- and all workers have theirs
    pub record Crew (workers : List (Worker C)) : Type 0 where
      pub threads : List Thread
      pub are_of : AreThreadsOf workers threads
      pub are_threads : (t : Thread) → IsOneOf t threads → IsThread opening t
      pub answers : (v : Visit C) → IsOneOf v (visits_by workers) → Answers ticks v (steps_among (happened_to threads))
      pub each : (w : Worker C) → IsOneOf w workers → (its : Threaded w) × IsOneOf its.thread threads

    pub crew : (workers : List (Worker C)) → ((w : Worker C) → IsOneOf w workers → IsWorker ticks opening w) → Crew workers
    crew [] are = record { threads = []; are_of = tt; are_threads = λ t one. absurd one; answers = λ v one. absurd one; each = λ w one. absurd one }
    crew (w ∷ ws) are =
        let its = threaded w (are w (inl refl)) in
        let more = crew ws (λ u one. are u (inr one)) in
        let first : List Happening = its.thread.happened in
        let others : List Happening = happened_to more.threads in
        record {
          threads = its.thread ∷ more.threads;
          are_of = (its.is_of, more.are_of);
          are_threads = λ t one. ⊎_elim
              (λ (e : t ≡ its.thread). subst (IsThread opening) (sym e) its.is_thread)
              (λ (r : IsOneOf t more.threads). more.are_threads t r)
              one;
          answers = λ v one. ⊎_elim
              (λ (l : IsOneOf v w.visits). answers_more v (steps_among first) (steps_among (first ++ others)) (into_left first others) (its.answers v l))
              (λ (r : IsOneOf v (visits_by ws)). answers_more v (steps_among others) (steps_among (first ++ others)) (into_right first others) (more.answers v r))
              (among_split v w.visits (visits_by ws) one);
          each = λ u one. ⊎_elim
              (λ (e : u ≡ w). subst (λ x. (t : Threaded x) × IsOneOf t.thread (its.thread ∷ more.threads)) (sym e) (its, inl refl))
              (λ (r : IsOneOf u ws). let it = more.each u r in (it.0, inr it.1))
              one;
        }
