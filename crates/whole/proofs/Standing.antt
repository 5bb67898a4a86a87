-- The step of an answered call stands once, with the reply that is due there, and there are no others.
use Rattle.std.proofs.Common.{◌≡◌, ◌≢◌, ◌⊎◌, ℕ, ◌<◌, false, cond, List, [], ◌∷◌, map, refl, sym, ap, ◌∙◌, subst, inl, inr, ⊎_elim, eq-eqb, ne_eqb}
use Rattle.headline.proofs.Common.{Streams, Ask, Step, Item, Answered, About, Opening, IsAmong, steps_on, HasStepsOf, Passed, fresh_pass, Thread, AnsweredCall, happened_to, IsOneOf, IsHeadline, RefusedShard, WasAnswered, ask_for, shard_at, step_for, false≢true, shard_below, among_split}
use Rattle.headline.proofs.Calling.{step_by, step_on, open_one}
use Rattle.headline.proofs.Living.{grows_on, fresh_sound}
use Rattle.whole.proofs.Common.{Worker, its_step, answered_among, steps_among, StandsOnce, IsOfRequest}
use Rattle.whole.proofs.Working.{Threaded, IsAskedAmong, made_of}

-- a step among these is of an answered call
pub step_answered : (s : Step) (calls : List AnsweredCall) → IsOneOf s (map its_step calls) → (a : AnsweredCall) × IsOneOf a calls × (s ≡ its_step a)
step_answered s [] one = absurd one
step_answered s (a ∷ calls) one = ⊎_elim
    (λ (e : s ≡ its_step a). (a, inl refl, e))
    (λ (t : IsOneOf s (map its_step calls)). let it = step_answered s calls t in (it.0, inr it.1, it.2))
    one

module _ (about : About) (threads : List Thread) (history : ℕ → List Item) (writing : ℕ → List Ask) (read : ℕ → Streams → Type 0) (failed : ℕ → Type 0) (replay : ℕ → Streams → Type 0) (refusal : ℕ → RefusedShard → Type 0)
    (headline : IsHeadline about threads history writing read failed replay refusal) (some_shard : 0 < about.shards) where
  stands : (a : AnsweredCall) → WasAnswered threads a → StandsOnce about history (its_step a)
  stands a was =
      let k : ℕ = shard_at about a in
      let lt : k < about.shards = shard_below about (ask_for a) some_shard in
      record {
        once = headline.each_answered_call_once a was k lt ∙ ap (λ b. cond b (step_for a ∷ []) []) (eq-eqb k k refl);
        nowhere_else = λ j below n. headline.each_answered_call_once a was j below ∙ ap (λ b. cond b (step_for a ∷ []) []) (ne_eqb j k n);
        due = headline.a_refusal_in_its_stated_place a was;
      }

  pub stands_once : (s : Step) → IsOneOf s (steps_among (happened_to threads)) → StandsOnce about history s
  stands_once s one =
      let it = step_answered s (answered_among (happened_to threads)) one in
      subst (StandsOnce about history) (sym it.2) (stands it.0 it.1)

-- each step of a worker's pass is of a request, or of a call that is in doubt
pub of_request : {D C : Type 0} (ticks : C → ℕ → C → Type 0) (opening : Opening D) (w : Worker C) (its : Threaded ticks opening w) (k : ℕ) (items : List Item) → HasStepsOf its.thread.end.caller k items → (s : Step) → IsOneOf (Answered s) items → s.ask.pass ≡ w.number → IsOfRequest w s
of_request ticks opening w its k items has s one mine =
    let t : Thread = its.thread in
    let start : Passed = fresh_pass opening.table opening.about t.number in
    let grown = grows_on opening false start t.end t.happened (λ e. absurd (false≢true e)) (fresh_sound opening t.number) its.is_thread.happen in
    let his : t.end.caller.pass ≡ s.ask.pass = grown.pass ∙ its.is_of.number ∙ sym mine in
    let made : List Step = steps_on t.end.caller.about k t.end.caller.made in
    let all : t.end.caller.made ≡ steps_among t.happened = made_of opening false start t.end t.happened its.is_thread.happen in
    ⊎_elim
    (λ (l : IsOneOf s made). ⊎_elim
    (λ (a : IsAskedAmong ticks w.visits s). inl a)
    (λ (b : IsOneOf s (steps_among w.since)). inr (inl b))
    (its.asked s (subst (IsOneOf s) all (step_on t.end.caller.about k s t.end.caller.made l))))
    (λ (r : IsOneOf s has.rest). inr (inr (subst (λ (p : Passed). IsAmong s.ask p.caller.pending) its.is_of.end (open_one s has.rest t.end.caller.pending has.among r))))
    (among_split s made has.rest (subst (IsOneOf s) has.is (step_by t.end.caller.pass s items his one)))
