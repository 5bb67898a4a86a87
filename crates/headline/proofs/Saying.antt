-- The headline, of one opening.
use Rattle.std.proofs.Common.{◌≡◌, ℕ, suc, ◌+◌, ◌<◌, Bool, true, false, cond, eqb, List, [], ◌∷◌, ◌++◌, take, drop, filter, refl, sym, ap, ◌∙◌, subst, inl, ⊎_elim, append_assoc, append-nil, eq-eqb, Some, take-append-drop, slice_get, Ok}
use Rattle.headline.proofs.Common.{Streams, Call, Reply, NoRoom, Unavailable, Ask, Step, Item, Answered, History, About, Caller, Passed, Opening, answer, reply_to, MayFollow, is_step_of, is_marked, IsAfter, IsBeginning, IsLegalAt, IsByPasses, base_at, terms_of, history_of, shard_in, step_of, steps_by, steps_on, HaveNumbersBelow, HaveNumbersAbove, IsRising, seen_at, ask_of, Extends, HasStepsOf, IsAnswered, shard_for, IsTold, What, Called, Happening, Happens, Thread, IsThread, AnsweredCall, answers_by, last_passes, happened_to, IsOneOf, ask_for, shard_at, step_for, steps_for, before_step, WasAnswered, is_refusal, RefusedShard, IsForDeviceOrMemory, IsReplay, IsHeadline, false≢true, begins_trans, below_more, below_middle, rising_back, legal_front, shard_below, among_right, among_part}
use Rattle.accept.proofs.Legal.{legal-last}
use Rattle.accept.proofs.OtherKeys.{answer-only_about}
use Rattle.headline.proofs.Calling.{step_called}
use Rattle.headline.proofs.Counting.{one_step, above_open, before_one}
use Rattle.headline.proofs.Living.{IsSound, Grows, given_answer, IsOnTheWay, on_the_way, sound_on, fresh_sound}

pub not_refused : (marked full : Bool) (reply r : Reply) → reply ≡ cond marked Unavailable (cond full NoRoom r) → is_refusal reply ≡ false → reply ≡ r
not_refused true full reply r e n = absurd (false≢true (sym n ∙ ap is_refusal e))
not_refused false true reply r e n = absurd (false≢true (sym n ∙ ap is_refusal e))
not_refused false false reply r e n = e

-- where the one step of a call stands
record IsPlaced (about : About) (seen items : List Item) (ask : Ask) (reply : Reply) : Type 0 where
  pub behind : List Item
  pub had_seen : IsBeginning seen (before_step ask items)
  pub stands : items ≡ before_step ask items ++ Answered (step_of ask reply) ∷ behind
  pub due : reply ≡ reply_to (terms_of about (shard_in about ask)) (history_of about (shard_in about ask) (before_step ask items)) ask.call

-- one answered call of a pass that went on to its end
module _ (about : About) (old new end : Passed) (call : Call) (reply : Reply) (sound : IsSound about old) (is : IsAnswered old new call reply) (later : Grows new end) (ends : IsSound about end) where
  abbrev the_ask : Ask
  the_ask = ask_of old.caller (old.caller.last + 1) call

  abbrev the_step : Step
  the_step = step_of the_ask reply

  made_so : new.caller.made ≡ old.caller.made ++ the_step ∷ []
  made_so = ap (λ (p : Passed). p.caller.made) is.pass

  made_then : end.caller.made ≡ old.caller.made ++ the_step ∷ later.made.rest
  made_then = later.made.is ∙ ap (λ l. l ++ later.made.rest) made_so ∙ append_assoc old.caller.made (the_step ∷ []) later.made.rest

  same_pass : end.caller.pass ≡ old.caller.pass
  same_pass = later.pass ∙ ap (λ (p : Passed). p.caller.pass) is.pass

  under : HaveNumbersBelow (old.caller.last + 1) old.caller.made
  under = below_more sound.floor (old.caller.last + 1) old.caller.made sound.low sound.made

  above : HaveNumbersAbove (old.caller.last + 1) later.made.rest
  above = (rising_back old.caller.made (the_step ∷ later.made.rest) (subst IsRising made_then ends.rising)).0

  below_floor : old.caller.last + 1 < ends.floor
  below_floor = below_middle ends.floor old.caller.made the_step later.made.rest (subst (HaveNumbersBelow ends.floor) (later.made.is ∙ ap (λ l. l ++ later.made.rest) made_so) ends.made)

  once : (k : ℕ) (items : List Item) → HasStepsOf end.caller k items → filter (is_step_of the_ask) items ≡ cond (eqb k (shard_in about the_ask)) (Answered the_step ∷ []) []
  once k items has =
      one_step about k the_step old.caller.made later.made.rest items has.rest under above
      (above_open (old.caller.last + 1) ends.floor has.rest end.caller.pending below_floor ends.pending has.among)
      (ap (λ p. steps_by p items) (sym same_pass) ∙ has.is ∙ ap (λ a. steps_on a k end.caller.made ++ has.rest) ends.about_is ∙ ap (λ l. steps_on about k l ++ has.rest) made_then)

  its_shard : shard_for old.caller call ≡ shard_in about the_ask
  its_shard = ap (λ a. shard_in a the_ask) sound.about_is

  extended : Extends old.caller.pass (seen_at old.caller (shard_in about the_ask)) the_step (seen_at new.caller (shard_in about the_ask))
  extended = subst (λ k. Extends old.caller.pass (seen_at old.caller k) the_step (seen_at new.caller k)) its_shard is.extends

  placed : (items : List Item) → IsLegalAt about (shard_in about the_ask) items → IsTold (shard_in about the_ask) items end → IsPlaced about (seen_at old.caller (shard_in about the_ask)) items the_ask reply
  placed items legal told =
      let k : ℕ = shard_in about the_ask in
      let begins : IsBeginning (seen_at new.caller k) items = begins_trans (later.seen k) told.begins in
      let front : List Item = seen_at old.caller k ++ extended.between in
      let whole : items ≡ (front ++ Answered the_step ∷ []) ++ begins.rest = begins.is ∙ ap (λ l. l ++ begins.rest) extended.is in
      let stands : items ≡ front ++ Answered the_step ∷ begins.rest = whole ∙ append_assoc front (Answered the_step ∷ []) begins.rest in
      let one : filter (is_step_of the_ask) items ≡ Answered the_step ∷ [] = once k items told.steps ∙ ap (λ b. cond b (Answered the_step ∷ []) []) (eq-eqb k k refl) in
      let here : before_step the_ask items ≡ front = ap (before_step the_ask) stands ∙ before_one the_step front begins.rest (ap (filter (is_step_of the_ask)) (sym stands) ∙ one) in
      let upto : IsLegalAt about k (front ++ Answered the_step ∷ []) = legal_front about k (front ++ Answered the_step ∷ []) items (record { rest = begins.rest; is = whole }) legal in
      let may : MayFollow (terms_of about k) (history_of about k front) (Answered the_step) = legal-last (terms_of about k) (history_of about k front) (Answered the_step) upto.is in
      record {
        behind = begins.rest;
        had_seen = record { rest = extended.between; is = here };
        stands = stands ∙ ap (λ l. l ++ Answered the_step ∷ begins.rest) (sym here);
        due = may.0 ∙ ap (λ l. reply_to (terms_of about k) (history_of about k l) call) (sym here);
      }

pub end_among : (t : Thread) (ts : List Thread) → IsOneOf t ts → (i : ℕ) × (slice_get (last_passes ts) i ≡ Some t.end)
end_among t [] h = absurd h
end_among t (u ∷ ts) h = ⊎_elim
    (λ (e : t ≡ u). (0, ap (λ (v : Thread). Some v.end) (sym e)))
    (λ (r : IsOneOf t ts). let j = end_among t ts r in (suc j.0, j.1))
    h

-- an answered call was a call
called : (c : Caller) (w : What) (a : AnsweredCall) → IsOneOf a (answers_by c w) → (call : Call) × (reply : Reply) × (w ≡ Called call (Ok reply)) × (a ≡ record { knew = c; call = call; reply = reply })
called c (Called call (Ok reply)) a h = ⊎_elim (λ (e : a ≡ record { knew = c; call = call; reply = reply }). (call, reply, refl, e)) (λ (n : ⊥). absurd n) h
called c w a h = absurd h

-- what is known of the history of a shard
pub record IsKnown {D : Type 0} (opening : Opening D) (threads : List Thread) (k : ℕ) (items : List Item) : Type 0 where
  pub legal : IsLegalAt opening.about k items
  pub by_passes : IsByPasses opening.about.passes items
  pub told : (t : Thread) → IsOneOf t threads → IsTold k items t.end

module _ {D : Type 0} (opening : Opening D) (threads : List Thread) (threads_are : (t : Thread) → IsOneOf t threads → IsThread opening t) (some_shard : 0 < opening.about.shards) (histories : ℕ → List Item)
    (good : (k : ℕ) → k < opening.about.shards → IsKnown opening threads k (histories k)) where
  -- an answered call, in the life of its pass
  record IsMadeIn (old : Passed) (call : Call) (reply : Reply) : Type 0 where
    pub thread : Thread
    pub of : IsOneOf thread threads
    pub new : Passed
    pub sound : IsSound opening.about old
    pub answered : IsAnswered old new call reply
    pub later : Grows new thread.end
    pub ends : IsSound opening.about thread.end

  way : (t : Thread) → IsOneOf t threads → (h : Happening) → IsOneOf h t.happened → IsOnTheWay opening h t.end
  way t of h one = on_the_way opening false _ t.end t.happened h (λ e. absurd (false≢true e)) (fresh_sound opening t.number) (threads_are t of).happen one

  ends_sound : (t : Thread) → IsOneOf t threads → IsSound opening.about t.end
  ends_sound t of = sound_on opening false _ t.end t.happened (λ e. absurd (false≢true e)) (fresh_sound opening t.number) (threads_are t of).happen

  -- what holds of each call that was made and answered so holds of each answered call
  each_call : (P : AnsweredCall → Type 0) → ((old : Passed) (call : Call) (reply : Reply) → IsMadeIn old call reply → P (record { knew = old.caller; call = call; reply = reply })) → (a : AnsweredCall) → WasAnswered threads a → P a
  each_call P holds a one =
      let h = among_part (λ (g : Happening). answers_by g.before.caller g.what) a (happened_to threads) one in
      let t = among_part (λ (u : Thread). u.happened) h.0 threads h.1 in
      let w = way t.0 t.1 h.0 t.2 in
      let c = called h.0.before.caller h.0.what a h.2 in
      let answered = given_answer opening w.lost h.0.before h.0.after c.0 c.1 (subst (λ (x : What). Happens w.lost opening h.0.before x h.0.after) c.2 w.happens) in
      subst P (sym c.3) (holds h.0.before c.0 c.1 (record {
        thread = t.0;
        of = t.1;
        new = h.0.after;
        sound = w.before;
        answered = answered.0;
        later = w.later;
        ends = ends_sound t.0 t.1;
      }))

  stands_at : (a : AnsweredCall) → WasAnswered threads a → IsPlaced opening.about (seen_at a.knew (shard_at opening.about a)) (histories (shard_at opening.about a)) (ask_for a) a.reply
  stands_at a one = each_call
      (λ a. IsPlaced opening.about (seen_at a.knew (shard_at opening.about a)) (histories (shard_at opening.about a)) (ask_for a) a.reply)
      (λ old call reply m.
      let k : ℕ = shard_in opening.about (ask_of old.caller (old.caller.last + 1) call) in
      let g : IsKnown opening threads k (histories k) = good k (shard_below opening.about (ask_of old.caller (old.caller.last + 1) call) some_shard) in
      placed opening.about old m.new m.thread.end call reply m.sound m.answered m.later m.ends (histories k) g.legal (g.told m.thread m.of))
      a one

  once_at : (a : AnsweredCall) → WasAnswered threads a → (k : ℕ) → k < opening.about.shards → steps_for a (histories k) ≡ cond (eqb k (shard_at opening.about a)) (step_for a ∷ []) []
  once_at a one = each_call
      (λ a. (k : ℕ) → k < opening.about.shards → steps_for a (histories k) ≡ cond (eqb k (shard_at opening.about a)) (step_for a ∷ []) [])
      (λ old call reply m k lt. once opening.about old m.new m.thread.end call reply m.sound m.answered m.later m.ends k (histories k) ((good k lt).told m.thread m.of).steps)
      a one

  held : (a : AnsweredCall) → WasAnswered threads a → (k : ℕ) → shard_at opening.about a ≡ k → IsOneOf (step_for a) (histories k)
  held a one k e =
      let p = stands_at a one in
      let here : IsOneOf (step_for a) (histories (shard_at opening.about a)) =
      subst (IsOneOf (step_for a)) (sym p.stands) (among_right (step_for a) (before_step (ask_for a) (histories (shard_at opening.about a))) (step_for a ∷ p.behind) (inl refl)) in
      subst (λ j. IsOneOf (step_for a) (histories j)) e here

  module _ (writing : ℕ → List Ask) (read : ℕ → Streams → Type 0) (reads : (k : ℕ) → k < opening.about.shards → read k (base_at opening.about k)) (failed : ℕ → Type 0) (marks : (k : ℕ) → k < opening.about.shards → is_marked (histories k) ≡ true → failed k)
      (replay : ℕ → Streams → Type 0) (after : (k : ℕ) → k < opening.about.shards → (state : Streams) → replay k state → IsAfter opening.about.limits (history_of opening.about k (histories k)) (writing k) state)
      (refusal : ℕ → RefusedShard → Type 0) (gives : (k : ℕ) (r : RefusedShard) → refusal k r → IsForDeviceOrMemory r) where
    replayed : (k : ℕ) → k < opening.about.shards → (state : Streams) → replay k state → IsReplay opening.about threads k (histories k) (writing k) state
    replayed k lt state r =
        let found = after k lt state r in
        record {
          beginning = histories k;
          more = take found.0 (writing k);
          the_state_after = found.2;
          a_beginning_of_that_history = record { rest = []; is = sym (append-nil (histories k)) };
          continued_only_by_calls_being_written = record { rest = drop found.0 (writing k); is = sym (take-append-drop found.0 (writing k)) };
          holds_every_answered_call = λ a one e. held a one k e;
          holds_what_each_pass_had_seen = λ t of. ((good k lt).told t of).begins;
        }

    pub says : IsHeadline opening.about threads histories writing read failed replay refusal
    says = record {
      over_what_was_read = reads;
      each_shards_calls = λ k lt. let g = good k lt in (g.legal, g.by_passes);
      one_growing_history = λ h one k lt.
          let t = among_part (λ (u : Thread). u.happened) h threads one in
          let w = way t.0 t.1 h t.2 in
          (w.grows.seen k, begins_trans (w.later.seen k) ((good k lt).told t.0 t.1).begins);
      each_answered_call_once = once_at;
      and_no_others = λ t of k lt. ((good k lt).told t of).steps;
      no_step_without_its_call = λ have k lt s one. step_called opening threads k (histories k) threads_are (λ t of. ((good k lt).told t of).steps) (good k lt).by_passes have s one;
      a_mark_only_where_a_device_failed = marks;
      after_all_its_pass_had_seen = λ a one. (stands_at a one).had_seen;
      the_reply = λ a one answered.
          let k : ℕ = shard_at opening.about a in
          let h : History = history_of opening.about k (before_step (ask_for a) (histories k)) in
          not_refused _ _ a.reply (answer opening.about.limits h a.call) (stands_at a one).due answered ∙ sym (answer-only_about opening.about.limits h a.call);
      a_refusal_in_its_stated_place = λ a one. (stands_at a one).due;
      whatever_crash_comes = replayed;
      replay_gives = gives;
    }
