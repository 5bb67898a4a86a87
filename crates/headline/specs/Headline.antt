-- What is proved of the calls of an opening, word by word.
use Rattle.std.specs.Prelude.{◌≡◌, ◌≢◌, ◌⊎◌, ℕ, ◌+◌, ◌<◌, ◌==◌, Bool, true, false, List, [], ◌∷◌, filter, if◌then◌else◌}
use Rattle.headline.specs.Types.{Streams, Reply, NoRoom, Unavailable, Ask, Step, Item, Answered, History, About, OpenFault}
use Rattle.accept.specs.Histories.{key_of, answer, meaning, reply_to, answered_to, is_step_of, is_marked}
use Rattle.accept.specs.OneKey.{only_about}
pub use Rattle.accept.specs.Lasting.{IsOneOf}
use Rattle.wal.specs.declared.fault.OpenFault.TheVariants.{Device, Memory}
use Rattle.history.specs.Histories.{IsBeginning, IsLegalAt, IsByPasses, base_at, terms_of, history_of, shard_in, step_of}
use Rattle.history.specs.Plays.{seen_at, ask_of, HasStepsOf}
use Rattle.headline.specs.Threads.{Happening, Thread, AnsweredCall, happened_to, calls_answered_to, calls_made_by}

abbrev pub is_refusal : Reply → Bool
is_refusal NoRoom = true
is_refusal Unavailable = true
is_refusal reply = false

-- an answered call under its pass and number, as its step, and all steps of it among some items
abbrev pub ask_for : AnsweredCall → Ask
ask_for a = ask_of a.knew (a.knew.last + 1) a.call

abbrev pub step_for : AnsweredCall → Item
step_for a = Answered (step_of (ask_for a) a.reply)

abbrev pub steps_for : AnsweredCall → List Item → List Item
steps_for a items = filter (is_step_of (ask_for a)) items

-- what stands before the first step of a call
abbrev pub before_step : Ask → List Item → List Item
before_step ask [] = []
before_step ask (i ∷ is) = if is_step_of ask i then [] else i ∷ before_step ask is

-- the shard of an answered call, and what stands before its step there
abbrev pub shard_at : About → AnsweredCall → ℕ
shard_at about a = shard_in about (ask_for a)

abbrev pub items_before : About → (ℕ → List Item) → AnsweredCall → List Item
items_before about history a = before_step (ask_for a) (history (shard_at about a))

abbrev pub history_before : About → (ℕ → List Item) → AnsweredCall → History
history_before about history a = history_of about (shard_at about a) (items_before about history a)

abbrev pub WasAnswered : List Thread → AnsweredCall → Type 0
WasAnswered threads a = IsOneOf a (calls_answered_to threads)

-- each of n passes has a thread
abbrev pub HaveThreads : ℕ → List Thread → Type 0
HaveThreads n threads = (p : ℕ) → p < n → (t : Thread) × IsOneOf t threads × (t.number ≡ p)

-- the call was made by one of the passes, under its number
abbrev pub WasCalled : List Thread → Ask → Type 0
WasCalled threads ask = IsOneOf ask (calls_made_by threads)

-- why an opening refused a shard, and how many calls on slot 0 and slot 1 had failed before it and after it
pub record RefusedShard : Type 0 where
  pub fault : OpenFault
  pub failures_before : ℕ × ℕ
  pub failures_after : ℕ × ℕ

-- for want of a device, and a call on one failed; or of memory, and none did
abbrev pub IsForDeviceOrMemory : RefusedShard → Type 0
IsForDeviceOrMemory r = ((r.fault ≡ Device) × (r.failures_after ≢ r.failures_before))
    ⊎ ((r.fault ≡ Memory) × (r.failures_after ≡ r.failures_before))

-- .. replay gives the state after a beginning of that history, continued only by calls then being written, that holds
-- every answered call.
pub record IsReplay (about : About) (threads : List Thread) (k : ℕ) (history : List Item)
    (writing : List Ask)
    (state : Streams) : Type 0 where
  pub beginning : List Item
  pub more : List Ask
  pub the_state_after : state ≡ meaning (answered_to about.limits (history_of about k beginning) more)
  pub a_beginning_of_that_history : IsBeginning beginning history
  pub continued_only_by_calls_being_written : IsBeginning more writing
  pub holds_every_answered_call : (a : AnsweredCall) → WasAnswered threads a → shard_at about a ≡ k
      → IsOneOf (step_for a) beginning
  pub holds_what_each_pass_had_seen : (t : Thread) → IsOneOf t threads
      → IsBeginning (seen_at t.end.caller k) beginning

-- However many threads call, each shard's calls stand in one growing history, each answered call once, after all its
-- pass had seen, with the reply a one-thread ingester computes from the earlier steps on that stream or a refusal in
-- its stated place; and whatever crash comes, ..
pub record IsHeadline (about : About) (threads : List Thread) (history : ℕ → List Item)
    (writing : ℕ → List Ask)
    (read : ℕ → Streams → Type 0)
    (failed : ℕ → Type 0)
    (replay : ℕ → Streams → Type 0)
    (refusal : ℕ → RefusedShard → Type 0) : Type 0 where
  pub over_what_was_read : (k : ℕ) → k < about.shards → read k (base_at about k)
  pub each_shards_calls : (k : ℕ) → k < about.shards
      → IsLegalAt about k (history k) × IsByPasses about.passes (history k)
  pub one_growing_history : (h : Happening) → IsOneOf h (happened_to threads) → (k : ℕ)
      → k < about.shards
      → IsBeginning (seen_at h.before.caller k) (seen_at h.after.caller k)
      × IsBeginning (seen_at h.after.caller k) (history k)
  pub each_answered_call_once : (a : AnsweredCall) → WasAnswered threads a → (k : ℕ)
      → k < about.shards
      → steps_for a (history k) ≡ (if k == shard_at about a then step_for a ∷ [] else [])
  pub and_no_others : (t : Thread) → IsOneOf t threads → (k : ℕ) → k < about.shards
      → HasStepsOf t.end.caller k (history k)
  pub no_step_without_its_call : HaveThreads about.passes threads → (k : ℕ) → k < about.shards
      → (s : Step) → IsOneOf (Answered s) (history k) → WasCalled threads s.ask
  pub a_mark_only_where_a_device_failed : (k : ℕ) → k < about.shards
      → is_marked (history k) ≡ true → failed k
  pub after_all_its_pass_had_seen : (a : AnsweredCall) → WasAnswered threads a
      → IsBeginning (seen_at a.knew (shard_at about a)) (items_before about history a)
  pub the_reply : (a : AnsweredCall) → WasAnswered threads a → is_refusal a.reply ≡ false
      → a.reply ≡ answer about.limits
      (only_about (key_of a.call) (history_before about history a)) a.call
  pub a_refusal_in_its_stated_place : (a : AnsweredCall) → WasAnswered threads a
      → a.reply ≡ reply_to (terms_of about (shard_at about a))
      (history_before about history a) a.call
  pub whatever_crash_comes : (k : ℕ) → k < about.shards → (state : Streams) → replay k state
      → IsReplay about threads k (history k) (writing k) state
  -- It is refused for want of a device or of memory, and for nothing that a crash left.
  pub replay_gives : (k : ℕ) (r : RefusedShard) → refusal k r → IsForDeviceOrMemory r
