-- What an owner's mailbox holds from step to step.
use Rattle.std.proofs.Common.{◌≡◌, ℕ, ◌+◌, ◌<◌, ◌≤◌, Bool, true, false, cond, List, [], ◌∷◌, ◌++◌, length, refl, sym, ap, ◌∙◌, subst, arith}
use Rattle.std.specs.Prelude.{Option, Some, None, slice_index_or, slice_set, vec_capacity}
use Rattle.std.specs.VecDeque.{deque_capacity}
use Rattle.keyed.specs.declared.ends.QueueSender.{QueueSender}
use Rattle.keyed.specs.declared.ends.QueueReceiver.{QueueReceiver}
use Rattle.keyed.specs.declared.binding.Binding.TheVariants.{Bound}
use Rattle.keyed.specs.Queues.{sends_to, receives_as}
use Rattle.shard.specs.declared.first_jobs.Job.{Job}
use Rattle.shard.specs.declared.group.Settled.{Settled}
use Rattle.owners.specs.declared.mailbox.Mailbox.{Mailbox}
use Rattle.owners.specs.declared.messages.ShardMessage.{ShardMessage}
use Rattle.owners.specs.Homes.{Homed}
use Rattle.owners.specs.Calls.{IsBatch, IsDue, AreDue}
use Rattle.owners.specs.Messages.{IsAnswerTo}
use Rattle.owners.specs.Mailboxes.{max_mailbox, IsPlace, ArePlaces, IsMailbox}
use Rattle.owners.specs.Bonds.{AreBoundFrom, ReceiveFrom}
use Rattle.owners.proofs.Each.{each_set, each_get}
use Rattle.owners.proofs.Waiting.{calls_more}

module _ (home : Homed) where
  -- one more came of calls of a pass, where there was room
  due_more : (p : ℕ) (some : List Settled) (s : Settled) (ok : Bool) → AreDue home p some → IsDue home p s → AreDue home p (cond ok (some ++ s ∷ []) some)
  due_more p [] s true h is = (is, tt)
  due_more p [] s false h is = tt
  due_more p (t ∷ some) s true h is = (h.0, due_more p some s true h.1 is)
  due_more p (t ∷ some) s false h is = h

  -- a message with what came of one call more
  pub message_more : (p : ℕ) (message now : ShardMessage) (s : Settled) (ok : Bool) → IsAnswerTo home p message → IsDue home p s → now.pass ≡ message.pass → now.jobs ≡ message.jobs → now.settled.items ≡ cond ok (message.settled.items ++ s ∷ []) message.settled.items → IsAnswerTo home p now
  message_more p message now s ok h is pass jobs items = record {
    pass = pass ∙ h.pass;
    jobs = ap (λ d. d.items) jobs ∙ h.jobs;
    settled = subst (AreDue home p) (sym items) (due_more p message.settled.items s ok h.settled is);
  }

  -- what lay at a place
  pub place_at : (places : List (Option ShardMessage)) (at : ℕ) (message : ShardMessage) → ArePlaces home places → at < length places → Some message ≡ slice_index_or places at None → IsAnswerTo home at message
  place_at places at message h lt is = let z : 0 + at ≡ at = omega arith in
      subst (IsPlace home at) (sym is) (subst (λ (n : ℕ). IsPlace home n (slice_index_or places at None)) z (each_get (IsPlace home) 0 places at None h lt))

  pub place_set : (places : List (Option ShardMessage)) (at : ℕ) (place : Option ShardMessage) → ArePlaces home places → IsPlace home at place → ArePlaces home (slice_set places at place)
  place_set places at place h is = let z : at ≡ 0 + at = omega arith in
      each_set (IsPlace home) 0 places at place h (subst (λ (n : ℕ). IsPlace home n place) z is)

  pub place_gone : (places : List (Option ShardMessage)) (at : ℕ) → ArePlaces home places → ArePlaces home (slice_set places at None)
  place_gone places at h = place_set places at None h tt

  pub place_new : (places : List (Option ShardMessage)) (at : ℕ) (message : ShardMessage) → ArePlaces home places → IsAnswerTo home at message → ArePlaces home (slice_set places at (Some message))
  place_new places at message h is = place_set places at (Some message) h is

  -- an emptied message waits for what comes of its calls
  pub message_emptied : (message : ShardMessage) → message.jobs.items ≡ [] → message.settled.items ≡ [] → IsAnswerTo home message.pass message
  message_emptied message none nothing = record { pass = refl; jobs = none; settled = subst (AreDue home message.pass) (sym nothing) tt }

  -- calls of a pass after the others
  pub mailbox_more : (k p : ℕ) (mailbox now : Mailbox) (batch : List Job) → IsMailbox home k mailbox → IsBatch home.table home.about k p batch → now.jobs.items ≡ mailbox.jobs.items ++ batch → now.settled ≡ mailbox.settled → ArePlaces home now.messages.items → deque_capacity now.jobs ≡ deque_capacity mailbox.jobs → IsMailbox home k now
  mailbox_more k p mailbox now batch h is items settled places room =
      let more = calls_more home.table home.about k p mailbox.jobs.items now.jobs.items batch h.waiting h.turn is items in
      record {
        waiting = more.0;
        turn = more.1;
        settled = ap (λ v. v.items) settled ∙ h.settled;
        messages = places;
        room = subst (λ n. max_mailbox ≤ n) (sym room) h.room;
        room_settled = subst (λ v. max_mailbox ≤ vec_capacity v) (sym settled) h.room_settled;
      }

-- a place's end is bound to its number
pub end_at : {T K P : Type 0} (key : K) (ends : List (QueueSender T K P)) (n : ℕ) (d : QueueSender T K P) → AreBoundFrom key ends → n < length ends → sends_to (slice_index_or ends n d) ≡ Bound key n
end_at key ends n d h lt = let z : 0 + n ≡ n = omega arith in subst (λ m. sends_to (slice_index_or ends n d) ≡ Bound key m) z (each_get (λ m end. sends_to end ≡ Bound key m) 0 ends n d h lt)

pub end_set : {T K P : Type 0} (key : K) (ends : List (QueueSender T K P)) (n : ℕ) (end : QueueSender T K P) → AreBoundFrom key ends → sends_to end ≡ Bound key n → AreBoundFrom key (slice_set ends n end)
end_set key ends n end h is = let z : n ≡ 0 + n = omega arith in each_set (λ m end. sends_to end ≡ Bound key m) 0 ends n end h (subst (λ m. sends_to end ≡ Bound key m) z is)

pub bound_at : {T K P : Type 0} (key : K) (ends : List (QueueReceiver T K P)) (n : ℕ) (end : QueueReceiver T K P) → ReceiveFrom key ends → n < length ends → end ≡ slice_index_or ends n end → receives_as end ≡ Bound key n
bound_at key ends n end h lt is = let z : 0 + n ≡ n = omega arith in
    subst (λ m. receives_as end ≡ Bound key m) z (subst (λ e. receives_as e ≡ Bound key (0 + n)) (sym is) (each_get (λ m e. receives_as e ≡ Bound key m) 0 ends n end h lt))

pub bound_set : {T K P : Type 0} (key : K) (ends : List (QueueReceiver T K P)) (n : ℕ) (end : QueueReceiver T K P) → ReceiveFrom key ends → receives_as end ≡ Bound key n → ReceiveFrom key (slice_set ends n end)
bound_set key ends n end h is = let z : n ≡ 0 + n = omega arith in each_set (λ m e. receives_as e ≡ Bound key m) 0 ends n end h (subst (λ m. receives_as end ≡ Bound key m) z is)
