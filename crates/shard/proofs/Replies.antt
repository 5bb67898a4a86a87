-- Which reply is due, and what a map that stands for a book's history says of it.
use Rattle.std.proofs.Common.{◌≡◌, ℕ, ◌<◌, ◌≤◌, inl, inr, Bool, true, false, cond, ◌&&◌, nat_lt, refl, sym, ap, ◌∙◌, subst, arith}
use Rattle.std.proofs.lemmas.Bool.Decides.{nat_tests}
use Rattle.accept.specs.declared.limits.Limits.{Limits}
use Rattle.accept.specs.declared.call.Call.{Call}
use Rattle.accept.specs.declared.call.Reply.{Reply}
use Rattle.accept.specs.declared.call.Reply.TheVariants.{NoRoom, Unavailable}
use Rattle.accept.specs.declared.history.Ask.{Ask}
use Rattle.accept.specs.declared.history.Item.TheVariants.{Answered}
use Rattle.accept.specs.Rooms.{Streams, room}
use Rattle.accept.specs.Histories.{key_of, meaning, changes, is_marked, then_step}
use Rattle.accept.proofs.Maps.{stands}
use Rattle.accept.proofs.Meanings.{meaning-answered, meaning-NoRoom, meaning-Unavailable}
use Rattle.accept.proofs.Unchanged.{after-unchanged, changes-same}
use Rattle.segment.specs.Spelling.{IsHere}
use Rattle.history.specs.Shards.{shard_of}
use Rattle.history.specs.Histories.{reply_of, shard_in, step_of}
use Rattle.history.specs.Handles.{Booked, history_in, longer}
use Rattle.history.proofs.Books.{refuses}
use Rattle.shard.specs.Keeping.{owner_in}
use Rattle.shard.specs.Calls.{answer_in, after_in, reply_in, NeedsWrite, IsQuiet}
use Rattle.shard.specs.Readies.{answer_of, after_of, IsUnchanged}

chosen : (marked full : Bool) (r : Reply) → marked ≡ false → full ≡ false → cond marked Unavailable (cond full NoRoom r) ≡ r
chosen true full r e f = absurd (cc)
chosen false true r e f = absurd (cc)
chosen false false r e f = refl

refused : (marked full : Bool) (r : Reply) → marked ≡ false → full ≡ true → cond marked Unavailable (cond full NoRoom r) ≡ NoRoom
refused true full r e f = absurd (cc)
refused false true r e f = refl
refused false false r e f = absurd (cc)

not_full : (b : Bool) (cap n : ℕ) → n ≤ cap → (b && nat_lt cap n) ≡ false
not_full true cap n h = grind (arith, nat_tests)
not_full false cap n h = refl

unchanged_not_full : (b c : Bool) → b ≡ false → (b && c) ≡ false
unchanged_not_full true c e = absurd (cc)
unchanged_not_full false c e = refl

is_full : (b : Bool) (cap n : ℕ) → b ≡ true → cap < n → (b && nat_lt cap n) ≡ true
is_full true cap n e h = grind (arith, nat_tests)
is_full false cap n e h = absurd (cc)

-- the answer is due where it changes nothing, and where there is room
pub due_unchanged : (book : Booked) (call : Call) → is_marked book.items ≡ false → changes (answer_in book call) ≡ false → answer_in book call ≡ reply_in book call
unfolding reply_of
due_unchanged book call unmarked same = sym (chosen (is_marked book.items) _ (answer_in book call) unmarked (unchanged_not_full (changes (answer_in book call)) (nat_lt book.about.capacity (room (after_in book call))) same))

pub due_written : (book : Booked) (call : Call) → NeedsWrite book call → answer_in book call ≡ reply_in book call
unfolding reply_of
due_written book call w = sym (chosen (is_marked book.items) _ (answer_in book call) w.unmarked (not_full (changes (answer_in book call)) book.about.capacity (room (after_in book call)) w.has_room))

pub due_full : (book : Booked) (call : Call) → is_marked book.items ≡ false → changes (answer_in book call) ≡ true → book.about.capacity < room (after_in book call) → NoRoom ≡ reply_in book call
unfolding reply_of
due_full book call unmarked changing full = sym (refused (is_marked book.items) _ (answer_in book call) unmarked (is_full (changes (answer_in book call)) book.about.capacity (room (after_in book call)) changing full))

pub due_marked : (book : Booked) (call : Call) → is_marked book.items ≡ true → Unavailable ≡ reply_in book call
due_marked book call marked = sym (refuses book.about book.shard book.items call marked)

-- a call that writes is none that is refused or changes nothing
pub writes_not_quiet : (book : Booked) (call : Call) → NeedsWrite book call → IsQuiet book call → ⊥
writes_not_quiet book call w (inl e) =
    let f : changes Unavailable ≡ true = ap changes (sym (due_written book call w ∙ e)) ∙ w.changing in
    absurd (cc)
writes_not_quiet book call w (inr (inl e)) =
    let f : changes NoRoom ≡ true = ap changes (sym (due_written book call w ∙ e)) ∙ w.changing in
    absurd (cc)
writes_not_quiet book call w (inr (inr e)) =
    let f : changes (answer_in book call) ≡ false = changes-same book.about.limits (history_in book) call e in
    let h : changes (answer_in book call) ≡ true = w.changing in
    absurd (cc)

-- a map that stands for the history answers as it does, and goes on to what it then means
pub stands_in : (book : Booked) (limits : Limits) (m : Streams) (call : Call) → limits ≡ book.about.limits → meaning (history_in book) ≡ m
    → (answer_of limits m call ≡ answer_in book call) × (after_of limits m call ≡ after_in book call)
stands_in book limits m call same means =
    subst (λ (l : Limits). (answer_of l m call ≡ answer_in book call) × (after_of l m call ≡ after_in book call)) (sym same)
    (stands book.about.limits (history_in book) call m (after_of book.about.limits m call) (answer_of book.about.limits m call) means refl refl)

-- what a call that writes nothing is to the book
pub record IsNoChange (book : Booked) (ask : Ask) (reply : Reply) : Type 0 where
  pub due : reply ≡ reply_in book ask.call
  pub same : meaning (history_in (longer book (Answered (step_of ask reply)))) ≡ meaning (history_in book)
  pub quiet : ¬ NeedsWrite book ask.call

pub no_change : (book : Booked) (limits : Limits) (m : Streams) (cap : ℕ) (ask : Ask) (reply : Reply) → limits ≡ book.about.limits → meaning (history_in book) ≡ m
    → is_marked book.items ≡ false → cap ≡ book.about.capacity → IsUnchanged limits cap m ask.call reply → IsNoChange book ask reply
no_change book limits m cap ask reply same means unmarked caps u =
    let s = stands_in book limits m ask.call same means in
    elim u.why [
      | inl why ↦ no_change-same s why
      | inr why ↦ no_change-full s why
    ]
  where
    no_change-same : (answer_of limits m ask.call ≡ answer_in book ask.call) × (after_of limits m ask.call ≡ after_in book ask.call) → (changes (answer_of limits m ask.call) ≡ false) × (reply ≡ answer_of limits m ask.call) → IsNoChange book ask reply
    no_change-same s why =
        let still : changes (answer_in book ask.call) ≡ false = ap changes (sym s.0) ∙ why.0 in
        let is : reply ≡ answer_in book ask.call = why.1 ∙ s.0 in
        record {
          due = is ∙ due_unchanged book ask.call unmarked still;
          same = ap (λ (r : Reply). meaning (then_step (history_in book) ask r)) is ∙ (meaning-answered book.about.limits (history_in book) ask ∙ after-unchanged book.about.limits (history_in book) ask.call still);
          quiet = λ (w : NeedsWrite book ask.call). let h : changes (answer_in book ask.call) ≡ true = w.changing in absurd (cc);
        }

    no_change-full : (answer_of limits m ask.call ≡ answer_in book ask.call) × (after_of limits m ask.call ≡ after_in book ask.call) → (changes (answer_of limits m ask.call) ≡ true) × (cap < room (after_of limits m ask.call)) × (reply ≡ NoRoom) → IsNoChange book ask reply
    no_change-full s why =
        let full : book.about.capacity < room (after_in book ask.call) = subst (λ (n : ℕ). n < room (after_in book ask.call)) caps (subst (λ (n : Streams). cap < room n) s.1 why.1) in
        record {
          due = why.2 ∙ due_full book ask.call unmarked (ap changes (sym s.0) ∙ why.0) full;
          same = ap (λ (r : Reply). meaning (then_step (history_in book) ask r)) why.2 ∙ meaning-NoRoom (history_in book) ask;
          quiet = λ (w : NeedsWrite book ask.call). omega (arith, full, w.has_room);
        }

-- a call after the mark
pub refused_after : (book : Booked) (ask : Ask) (reply : Reply) → is_marked book.items ≡ true → reply ≡ Unavailable → IsNoChange book ask reply
refused_after book ask reply marked is = record {
  due = is ∙ due_marked book ask.call marked;
  same = ap (λ (r : Reply). meaning (then_step (history_in book) ask r)) is ∙ meaning-Unavailable (history_in book) ask;
  quiet = λ (w : NeedsWrite book ask.call). let h : is_marked book.items ≡ false = w.unmarked in absurd (cc);
}

-- a key of the book's shard is one of its slots
pub is_here : (book : Booked) (ask : Ask) (call : Call) → shard_in book.about ask ≡ book.shard → ask.call ≡ call → IsHere (owner_in book) (key_of call)
unfolding shard_of
is_here book ask call here same = subst (λ (k : Call). IsHere (owner_in book) (key_of k)) same here
