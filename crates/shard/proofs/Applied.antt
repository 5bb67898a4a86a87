-- What is shown of a call that has its step.
use Rattle.std.proofs.Common.{◌≡◌, inl, inr, Bool, refl, sym, subst}
use Rattle.accept.specs.declared.limits.Limits.{Limits}
use Rattle.accept.specs.declared.call.Call.{Call}
use Rattle.accept.specs.declared.call.Reply.{Reply}
use Rattle.accept.specs.declared.history.Item.TheVariants.{Answered}
use Rattle.disk.specs.Sight.{Sight}
use Rattle.wal.specs.declared.log.Wal.{Wal}
use Rattle.wal.specs.Moments.{Pair, PairLeavesOnly, HasFailed, HasNoFailure}
use Rattle.wal.specs.Logs.{Follow, slots}
use Rattle.history.specs.Histories.{doubt_of, step_of}
use Rattle.history.specs.Handles.{Booked, Announced, Received, longer}
use Rattle.streams.specs.Mapped.{Mapped}
use Rattle.shard.specs.Keeping.{moments, LeavesSince, IsAllowed}
use Rattle.shard.specs.Calls.{reply_in, NeedsWrite, MayLeave}
use Rattle.shard.specs.Shards.{IsShard}
use Rattle.shard.specs.Parts.{IsApplied}
use Rattle.shard.proofs.Slots.{IsClocked, only_now_left, no_time, none_yet}

-- since now a crash leaves what the shard's slots keep
pub since_now : {D : Type 0} (sight : D → Sight) (follows : D → Type 0) → IsClocked sight follows → (log : Wal D) (book : Booked) (opened : Wal D) (states : Mapped) (flag : Bool) (limits : Limits)
    → IsShard sight follows log book opened states flag limits → Follow follows log → LeavesSince (moments (slots sight log)) (slots sight log) (IsAllowed book (doubt_of book.items))
since_now sight follows clocked log book opened states flag limits s f a b x y =
    let w = only_now_left sight follows clocked log f a b x y in
    s.covers f a b w.0 w.1

-- at no moment is anything else left where nothing was written
pub nothing_written : {D : Type 0} (sight : D → Sight) (follows : D → Type 0) → IsClocked sight follows → (log : Wal D) (book : Booked) (opened : Wal D) (states : Mapped) (flag : Bool) (limits : Limits) (call : Call)
    → IsShard sight follows log book opened states flag limits → Follow follows log → PairLeavesOnly (slots sight log) (slots sight log) (MayLeave book call)
nothing_written sight follows clocked log book opened states flag limits call s f =
    no_time (slots sight log) (MayLeave book call) (λ a b x y. inl (since_now sight follows clocked log book opened states flag limits s f a b x y))

-- a call that writes nothing
pub applied_quiet : {D : Type 0} (sight : D → Sight) (follows : D → Type 0) → IsClocked sight follows → (log : Wal D) (book : Booked) (opened : Wal D) (states : Mapped) (flag : Bool) (limits : Limits)
    (ticket : Announced) (reply given : Reply) (receipt : Received)
    → IsShard sight follows log book opened states flag limits → IsShard sight follows log (longer book (Answered (step_of ticket.ask reply))) opened states flag limits
    → reply ≡ reply_in book ticket.ask.call → ¬ NeedsWrite book ticket.ask.call → given ≡ reply
    → receipt ≡ record { table = ticket.table; step = step_of ticket.ask reply; upto = (longer book (Answered (step_of ticket.ask reply))).items; moment = moments (slots sight log) }
    → IsApplied sight follows (record { log = log; book = book; opened = opened }) (record { log = log; book = longer book (Answered (step_of ticket.ask reply)); opened = opened }) ticket given receipt
applied_quiet sight follows clocked log book opened states flag limits ticket reply given receipt s after_step due quiet gives receipt_is =
    subst (λ (r : Reply). IsApplied sight follows (record { log = log; book = book; opened = opened }) (record { log = log; book = longer book (Answered (step_of ticket.ask reply)); opened = opened }) ticket r receipt) (sym gives)
    (record {
      step = inl (record { no_failure = none_yet (slots sight log); replied = due; book = refl });
      quiet = λ _. refl;
      before = λ f. f;
      any_moment = nothing_written sight follows clocked log book opened states flag limits ticket.ask.call s;
      receipt_is = receipt_is;
      since = since_now sight follows clocked log (longer book (Answered (step_of ticket.ask reply))) opened states flag limits after_step;
      appended = λ _. refl;
      rolled = λ w. absurd (quiet w);
      opened = refl;
    })

pub both_not : (a b : Pair) → HasFailed a b → HasNoFailure a b → ⊥
both_not a b (inl f) h = f h.0
both_not a b (inr f) h = f h.1
