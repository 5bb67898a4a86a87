-- Small runs of which the record holds, so that a changed record can be refuted by them.
use Rattle.std.proofs.Common.{◌≡◌, ◌⊎◌, ℕ, zero, suc, ◌<◌, Bool, true, false, List, [], ◌∷◌, ◌++◌, take, refl, sym, ap, ◌∙◌, subst, inl, inr, ⊎_elim, arith, Some, None, slice_get, slice_index_or, ◌==◌, if◌then◌else◌, is_some, Ok, true≢false}
use Rattle.std.specs.FinMap as finite
use Rattle.headline.proofs.Common.{StreamKey, Streams, Push, Unavailable, Ask, Step, Item, Answered, Failed, About, Passed, meaning, stream_of, MayFollow, answered_to, reply_to, Device, Memory, IsBeginning, IsLegalAt, IsByPasses, base_at, terms_of, history_of, seen_at, HasStepsOf, Called, Happening, Thread, AnsweredCall, happened_to, IsOneOf, WasAnswered, WasCalled, RefusedShard, IsForDeviceOrMemory, IsReplay, IsHeadline, is_refusal, shard_at, step_for, steps_for, items_before, history_before}
use Rattle.accept.proofs.Meanings.{get-meaning, meaning-nothing}
use Rattle.history.specs.Shards.{shard_of}

abbrev pub key : ℕ → StreamKey
key n = record { tenant = 97 ∷ []; labels = n ∷ [] }

-- a push of one entry on the key of this number, which is also the call's
abbrev pub push : ℕ → Ask
push n = record { pass = 0; number = n; call = Push (key n) 5 (record { time = 5; line = 108 ∷ []; meta = [] } ∷ []) }

abbrev pub about : About
about = record { shards = 1; passes = 1; limits = record { line = 100; half_age = 10; max_old = 100; max_ahead = 100 }; capacity = 1000; bases = [] }

-- The one call of the one pass: a device failed while it was written, and it was answered so.
abbrev pub step : Step
step = record { ask = push 1; reply = Unavailable }

abbrev pub items : List Item
items = Failed (push 1 ∷ []) ∷ Answered step ∷ []

abbrev pub failed : ℕ → List Item
failed k = items

abbrev pub in_doubt : ℕ → List Ask
in_doubt k = push 1 ∷ []

-- it was found
abbrev pub found : ℕ → Streams → Type 0
found k state = state ≡ meaning (answered_to about.limits (history_of about k items) (push 1 ∷ []))

-- or its slots were not opened for want of memory, or because a call on slot 0 failed
abbrev pub no_memory : RefusedShard
no_memory = record { fault = Memory; failures_before = (0, 0); failures_after = (0, 0) }

abbrev pub no_device : RefusedShard
no_device = record { fault = Device; failures_before = (0, 0); failures_after = (1, 0) }

abbrev pub wanting : ℕ → RefusedShard → Type 0
wanting k r = (r ≡ no_memory) ⊎ (r ≡ no_device)

wanted : (k : ℕ) (r : RefusedShard) → wanting k r → IsForDeviceOrMemory r
wanted k r (inl e) = subst IsForDeviceOrMemory (sym e) (inr (refl, refl))
wanted k r (inr e) = subst IsForDeviceOrMemory (sym e) (inl (refl, λ same. let never : 1 ≡ 0 = ap (λ (c : ℕ × ℕ). c.0) same in omega arith))

-- the slots were empty when they were opened
abbrev pub empty_slots : ℕ → Streams → Type 0
empty_slots k m = m ≡ finite.empty

-- a call on a slot failed
abbrev pub one_failed : ℕ → Type 0
one_failed k = Unit {0}

module _ (any : Passed) where
  abbrev pub knows : ℕ → List Item → List Step → Passed
  knows last seen made = record {
    table = any.table;
    caller = record { about = about; pass = 0; last = last; seen = seen ∷ []; made = made; withdrawn = []; pending = [] };
    closed = false;
  }

  abbrev pub happening : Happening
  happening = record { before = knows 0 [] []; what = Called step.ask.call (Ok step.reply); after = knows 1 items (step ∷ []) }

  abbrev pub threads : List Thread
  threads = record { number = 0; happened = happening ∷ []; end = knows 1 items (step ∷ []) } ∷ []

  abbrev pub answered : AnsweredCall
  answered = record { knew = (knows 0 [] []).caller; call = step.ask.call; reply = step.reply }

  may_fail : MayFollow (terms_of about 0) (history_of about 0 []) (Failed (push 1 ∷ []))
  unfolding shard_of
  may_fail = (refl, refl)

  may_answer : MayFollow (terms_of about 0) (history_of about 0 (Failed (push 1 ∷ []) ∷ [])) (Answered step)
  unfolding shard_of
  may_answer = (refl, refl, refl)

  legal : IsLegalAt about 0 items
  legal = record { is = at }
    where
      at : (n : ℕ) (i : Item) → slice_get items n ≡ Some i → MayFollow (terms_of about 0) (history_of about 0 (take n items)) i
      at zero i e = let same : Failed (push 1 ∷ []) ≡ i = cc in subst (MayFollow (terms_of about 0) (history_of about 0 [])) same may_fail
      at (suc zero) i e = let same : Answered step ≡ i = cc in subst (MayFollow (terms_of about 0) (history_of about 0 (Failed (push 1 ∷ []) ∷ []))) same may_answer
      at (suc (suc n)) i e = let never : None ≡ Some i = e in absurd (cc)

  only_happening : (h : Happening) → IsOneOf h (happened_to threads) → h ≡ happening
  only_happening h one = ⊎_elim (λ (e : h ≡ happening). e) (λ (n : ⊥). absurd n) one

  only_call : (a : AnsweredCall) → WasAnswered threads a → a ≡ answered
  only_call a one = ⊎_elim (λ (e : a ≡ answered). e) (λ (n : ⊥). absurd n) one

  grows : (k : ℕ) → k < 1 → IsBeginning (slice_index_or ([] ∷ []) k []) (slice_index_or (items ∷ []) k []) × IsBeginning (slice_index_or (items ∷ []) k []) items
  grows zero lt = (record { rest = items; is = refl }, record { rest = []; is = refl })
  grows (suc k) lt = absurd (omega arith)

  once : (k : ℕ) → k < 1 → steps_for answered items ≡ (if k == shard_at about answered then Answered step ∷ [] else [])
  unfolding shard_of
  once zero lt = refl
  once (suc k) lt = absurd (omega arith)

  its : (k : ℕ) → k < 1 → HasStepsOf (knows 1 items (step ∷ [])).caller k items
  unfolding shard_of
  its zero lt = record { rest = []; is = refl; among = tt; rises = tt; told = (inl (inl refl), tt) }
  its (suc k) lt = absurd (omega arith)

  seen_before : IsBeginning (seen_at answered.knew (shard_at about answered)) (items_before about failed answered)
  unfolding shard_of
  seen_before = record { rest = Failed (push 1 ∷ []) ∷ []; is = refl }

  due : Unavailable ≡ reply_to (terms_of about (shard_at about answered)) (history_before about failed answered) answered.call
  unfolding shard_of
  due = refl

  was_called : (s : Step) → IsOneOf (Answered s) items → WasCalled threads s.ask
  was_called s (inl e) = absurd (let never : Answered s ≡ Failed (push 1 ∷ []) = e in cc)
  was_called s (inr (inl e)) = let same : s ≡ step = cc in subst (λ (t : Step). WasCalled threads t.ask) (sym same) (inl refl)
  was_called s (inr (inr n)) = absurd n

  pub stands : IsHeadline about threads failed in_doubt empty_slots one_failed found wanting
  stands = record {
    over_what_was_read = λ k lt. refl;
    each_shards_calls = each;
    one_growing_history = λ h one k lt. subst (λ (g : Happening). IsBeginning (seen_at g.before.caller k) (seen_at g.after.caller k) × IsBeginning (seen_at g.after.caller k) items) (sym (only_happening h one)) (grows k lt);
    each_answered_call_once = λ a one. subst (λ (b : AnsweredCall). (k : ℕ) → k < 1 → steps_for b items ≡ (if k == shard_at about b then step_for b ∷ [] else [])) (sym (only_call a one)) once;
    and_no_others = λ t one. ⊎_elim (λ (e : t ≡ _). subst (λ (u : Thread). (k : ℕ) → k < 1 → HasStepsOf u.end.caller k items) (sym e) its) (λ (n : ⊥). absurd n) one;
    no_step_without_its_call = λ have k lt s one. was_called s one;
    a_mark_only_where_a_device_failed = λ k lt e. tt;
    after_all_its_pass_had_seen = λ a one. subst (λ (b : AnsweredCall). IsBeginning (seen_at b.knew (shard_at about b)) (items_before about failed b)) (sym (only_call a one)) seen_before;
    the_reply = λ a one e. absurd (true≢false (ap (λ (b : AnsweredCall). is_refusal b.reply) (sym (only_call a one)) ∙ e));
    a_refusal_in_its_stated_place = λ a one. subst (λ (b : AnsweredCall). b.reply ≡ reply_to (terms_of about (shard_at about b)) (history_before about failed b) b.call) (sym (only_call a one)) due;
    whatever_crash_comes = λ k lt state e. replayed k lt state e;
    replay_gives = wanted;
  }
    where
      each : (k : ℕ) → k < 1 → IsLegalAt about k items × IsByPasses 1 items
      each zero lt = (legal, ((omega arith, tt), (omega arith, tt)))
      each (suc k) lt = absurd (omega arith)

      replayed : (k : ℕ) → k < 1 → (state : Streams) → found k state → IsReplay about threads k items (push 1 ∷ []) state
      replayed zero lt state e = record {
        beginning = items;
        more = push 1 ∷ [];
        the_state_after = e;
        a_beginning_of_that_history = record { rest = []; is = refl };
        continued_only_by_calls_being_written = record { rest = []; is = refl };
        holds_every_answered_call = λ a one s. subst (λ (b : AnsweredCall). IsOneOf (step_for b) items) (sym (only_call a one)) (inr (inl refl));
        holds_what_each_pass_had_seen = λ t one. ⊎_elim (λ (e : t ≡ _). subst (λ (u : Thread). IsBeginning (seen_at u.end.caller 0) items) (sym e) (record { rest = []; is = refl })) (λ (n : ⊥). absurd n) one;
      }
      replayed (suc k) lt state e = absurd (omega arith)

-- Two calls were being written, and the first of them was found.
abbrev pub nothing : ℕ → List Item
nothing k = []

abbrev pub two : ℕ → List Ask
two k = push 1 ∷ push 2 ∷ []

abbrev pub one_found : ℕ → Streams → Type 0
one_found k state = state ≡ meaning (answered_to about.limits (history_of about k []) (push 1 ∷ []))

-- an opening of which nobody made a call
without_calls : (a : About) (read replay : ℕ → Streams → Type 0) → ((k : ℕ) → k < a.shards → read k (base_at a k)) → ((k : ℕ) → k < a.shards → (state : Streams) → replay k state → IsReplay a [] k [] (two k) state) → IsHeadline a [] nothing two read (λ k. ⊥) replay wanting
without_calls a read replay reads replayed = record {
  over_what_was_read = reads;
  each_shards_calls = λ k lt. (record { is = λ n i e. let never : None ≡ Some i = e in absurd (cc) }, tt);
  one_growing_history = λ h one. absurd one;
  each_answered_call_once = λ a one. absurd one;
  and_no_others = λ t one. absurd one;
  no_step_without_its_call = λ have k lt s one. absurd one;
  a_mark_only_where_a_device_failed = λ k lt e. absurd (true≢false (sym e));
  after_all_its_pass_had_seen = λ a one. absurd one;
  the_reply = λ a one. absurd one;
  a_refusal_in_its_stated_place = λ a one. absurd one;
  whatever_crash_comes = replayed;
  replay_gives = wanted;
}

pub also_stands : IsHeadline about [] nothing two empty_slots (λ k. ⊥) one_found wanting
also_stands = without_calls about empty_slots one_found (λ k lt. refl) (λ k lt state e. record {
  beginning = [];
  more = push 1 ∷ [];
  the_state_after = e;
  a_beginning_of_that_history = record { rest = []; is = refl };
  continued_only_by_calls_being_written = record { rest = push 2 ∷ []; is = refl };
  holds_every_answered_call = λ a one. absurd one;
  holds_what_each_pass_had_seen = λ t one. absurd one;
})

-- The slots held the stream of one call when they were opened.
abbrev pub one_stream : Streams
one_stream = meaning (answered_to about.limits (history_of about 0 []) (push 1 ∷ []))

abbrev pub about_more : About
about_more = record about { bases = one_stream ∷ [] }

abbrev pub held_one : ℕ → Streams → Type 0
held_one k m = m ≡ one_stream

abbrev pub no_replay : ℕ → Streams → Type 0
no_replay k state = ⊥

pub stands_over : IsHeadline about_more [] nothing two held_one (λ k. ⊥) no_replay wanting
stands_over = without_calls about_more held_one no_replay first (λ k lt state e. absurd e)
  where
    first : (k : ℕ) → k < 1 → held_one k (slice_index_or (one_stream ∷ []) k finite.empty)
    first zero lt = refl
    first (suc k) lt = absurd (omega arith)

-- whether there is a stream on the key of this number
abbrev pub has_stream : ℕ → List Ask → Bool
has_stream n asks = is_some (stream_of (answered_to about.limits (history_of about 0 []) asks) (key n))

one_one : has_stream 1 (push 1 ∷ []) ≡ true
one_one = simp finite.get-empty

one_none : has_stream 1 [] ≡ false
one_none = simp finite.get-empty

two_one : has_stream 2 (push 1 ∷ []) ≡ false
two_one = simp finite.get-empty

two_two : has_stream 2 (push 2 ∷ []) ≡ true
two_two = simp finite.get-empty

two_both : has_stream 2 (push 2 ∷ push 1 ∷ []) ≡ true
two_both = simp finite.get-empty

-- calls that lead to the same state lead to the same streams
same_streams : (n : ℕ) (xs ys : List Ask) → meaning (answered_to about.limits (history_of about 0 []) xs) ≡ meaning (answered_to about.limits (history_of about 0 []) ys) → has_stream n xs ≡ has_stream n ys
same_streams n xs ys e =
    ap is_some (sym (get-meaning (answered_to about.limits (history_of about 0 []) xs) (key n)))
    ∙ ap (λ m. is_some (finite.get m (key n))) e
    ∙ ap is_some (get-meaning (answered_to about.limits (history_of about 0 []) ys) (key n))

-- no beginning of the two calls in the other order leads to what was found
pub other_found : (front : List Item) → IsBeginning front [] → (more : List Ask) → IsBeginning more (push 2 ∷ push 1 ∷ []) → meaning (answered_to about.limits (history_of about 0 []) (push 1 ∷ [])) ≡ meaning (answered_to about.limits (history_of about 0 front) more) → ⊥
other_found (x ∷ front) b more o e = let never : [] ≡ x ∷ (front ++ b.rest) = b.is in cc
other_found [] b [] o e = true≢false (sym one_one ∙ same_streams 1 (push 1 ∷ []) [] e ∙ one_none)
other_found [] b (x ∷ []) o e =
    let one : push 2 ≡ x = let is : push 2 ∷ push 1 ∷ [] ≡ x ∷ o.rest = o.is in cc in
    true≢false (sym two_two ∙ ap (λ a. has_stream 2 (a ∷ [])) one ∙ sym (same_streams 2 (push 1 ∷ []) (x ∷ []) e) ∙ two_one)
other_found [] b (x ∷ y ∷ []) o e =
    let both : push 2 ∷ push 1 ∷ [] ≡ x ∷ y ∷ o.rest = o.is in
    let one : push 2 ≡ x = cc in
    let other : push 1 ≡ y = cc in
    true≢false (sym two_both ∙ ap (λ a. has_stream 2 (a ∷ push 1 ∷ [])) one ∙ ap (λ a. has_stream 2 (x ∷ a ∷ [])) other ∙ sym (same_streams 2 (push 1 ∷ []) (x ∷ y ∷ []) e) ∙ two_one)
other_found [] b (x ∷ y ∷ z ∷ more) o e = let never : push 2 ∷ push 1 ∷ [] ≡ x ∷ y ∷ z ∷ (more ++ o.rest) = o.is in cc

-- the slots that held a stream were not empty
pub not_empty : finite.empty ≡ one_stream → ⊥
not_empty e = true≢false (sym one_one ∙ same_streams 1 (push 1 ∷ []) [] (sym e ∙ sym (meaning-nothing finite.empty)) ∙ one_none)
