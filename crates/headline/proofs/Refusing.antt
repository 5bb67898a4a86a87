-- Wrong servers: of none of them the record holds, and one field refuses each.
use Rattle.std.proofs.Common.{◌≡◌, ℕ, List, [], ◌∷◌, ◌++◌, refl, sym, ap, ◌∙◌, inl, inr, arith}
use Rattle.std.specs.FinMap as finite
use Rattle.headline.proofs.Common.{Streams, Ask, Item, Answered, Passed, meaning, answer, answered_to, Device, Memory, IsBeginning, history_of, Looked, Thread, HaveThreads, RefusedShard, IsForDeviceOrMemory, IsHeadline}
use Rattle.headline.proofs.Sample.{about, push, step, failed, in_doubt, knows, threads, held_one, not_empty}

module _ (any : Passed) (read : ℕ → Streams → Type 0) (broken : ℕ → Type 0) (replay : ℕ → Streams → Type 0) (refusal : ℕ → RefusedShard → Type 0) where
  -- It is unavailable from the start, and no device failed.
  pub unavailable_from_the_start : IsHeadline about (threads any) failed in_doubt read (λ k. ⊥) replay refusal → ⊥
  unavailable_from_the_start h = h.a_mark_only_where_a_device_failed 0 (omega arith) refl

  -- Its slots held a stream, and it opens without one.
  pub opens_over_nothing : IsHeadline about (threads any) failed in_doubt held_one broken replay refusal → ⊥
  opens_over_nothing h = not_empty (h.over_what_was_read 0 (omega arith))

  -- It refuses its slots for a device, and no call failed.
  abbrev pub no_failed_call : RefusedShard
  no_failed_call = record { fault = Device; failures_before = (0, 0); failures_after = (0, 0) }

  abbrev pub without_cause : ℕ → RefusedShard → Type 0
  without_cause k r = r ≡ no_failed_call

  no_cause : IsForDeviceOrMemory no_failed_call → ⊥
  no_cause (inl both) = both.1 refl
  no_cause (inr both) = let never : Device ≡ Memory = both.0 in cc

  pub names_a_device_without_a_failed_call : IsHeadline about (threads any) failed in_doubt read broken replay without_cause → ⊥
  names_a_device_without_a_failed_call h = no_cause (h.replay_gives 0 no_failed_call refl)

  -- Its only pass made no call, and its history has a step.
  abbrev pub idle : List Thread
  idle = record { number = 0; happened = []; end = knows any 0 [] [] } ∷ []

  has_thread : HaveThreads 1 idle
  has_thread p lt = (record { number = 0; happened = []; end = knows any 0 [] [] }, inl refl, omega arith)

  pub invents_a_step : IsHeadline about idle failed in_doubt read broken replay refusal → ⊥
  invents_a_step h = h.no_step_without_its_call has_thread 0 (omega arith) step (inr (inl refl))

  -- A look saw a push. Then a crash comes, and nothing is replayed.
  abbrev pub pushed : List Item
  pushed = Answered (record { ask = push 1; reply = answer about.limits (history_of about 0 []) (push 1).call }) ∷ []

  abbrev pub looked : List Thread
  looked = record { number = 0; happened = record { before = knows any 0 [] []; what = Looked 0; after = knows any 0 pushed [] } ∷ []; end = knows any 0 pushed [] } ∷ []

  abbrev pub lost : ℕ → Streams → Type 0
  lost k state = state ≡ finite.empty

  all_kept : (front : List Item) (more : List Ask) → IsBeginning pushed front → IsBeginning front pushed → IsBeginning more [] → finite.empty ≡ meaning (answered_to about.limits (history_of about 0 front) more) → ⊥
  all_kept [] more a b c e = let never : [] ≡ pushed ++ a.rest = a.is in cc
  all_kept (x ∷ y ∷ front) more a b c e = let never : pushed ≡ x ∷ y ∷ (front ++ b.rest) = b.is in cc
  all_kept (x ∷ []) (m ∷ more) a b c e = let never : [] ≡ m ∷ (more ++ c.rest) = c.is in cc
  all_kept (x ∷ []) [] a b c e =
      let is : pushed ≡ x ∷ b.rest = b.is in
      let same : Answered (record { ask = push 1; reply = answer about.limits (history_of about 0 []) (push 1).call }) ≡ x = cc in
      not_empty (e ∙ ap (λ (i : Item). meaning (history_of about 0 (i ∷ []))) (sym same))

  pub forgets_what_a_look_saw : IsHeadline about looked (λ k. pushed) (λ k. []) read broken lost refusal → ⊥
  forgets_what_a_look_saw h =
      let r = h.whatever_crash_comes 0 (omega arith) finite.empty refl in
      all_kept r.beginning r.more (r.holds_what_each_pass_had_seen _ (inl refl)) r.a_beginning_of_that_history r.continued_only_by_calls_being_written r.the_state_after
