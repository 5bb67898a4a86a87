-- What a group of calls means, and what is kept of it while its steps are added.
use Rattle.std.proofs.Common.{◌≡◌, ◌⊎◌, ℕ, ◌≤◌, Bool, true, false, cond, ◌&&◌, nat_lt, List, [], ◌∷◌, ◌++◌, length, take, inl, inr, refl, sym, ap, ◌∙◌, subst, arith}
use Rattle.std.proofs.lemmas.Bool.Decides.{nat_tests}
use Rattle.std.proofs.Math.Seq.{take-length, take-nil}
use Rattle.accept.specs.declared.call.Call.{Call}
use Rattle.accept.specs.declared.call.Reply.{Reply}
use Rattle.accept.specs.declared.call.Reply.TheVariants.{NoRoom, Unavailable}
use Rattle.accept.specs.declared.history.Ask.{Ask}
use Rattle.accept.specs.declared.history.Item.{Item}
use Rattle.accept.specs.declared.history.Item.TheVariants.{Answered, Failed}
use Rattle.accept.specs.Rooms.{Streams, room}
use Rattle.accept.specs.Histories.{meaning, changes, is_marked, then_step, answered_to}
use Rattle.accept.proofs.Meanings.{meaning-answered, meaning-NoRoom, meaning-Unavailable, meaning-Failed, meaning-answered_to}
use Rattle.accept.proofs.Unchanged.{after-unchanged}
use Rattle.wal.specs.Recovery.{Recovers, IsEither}
use Rattle.wal.specs.Moments.{Pair}
use Rattle.history.specs.Histories.{HaveSteps, HasStep, steps_by, doubt_or, doubt_of, reply_of, step_of}
use Rattle.history.specs.Handles.{Booked, Announced, history_in, longer}
use Rattle.history.proofs.Past.{marked_step, marked_mark, doubt_marked, doubt_unmarked, have_more}
use Rattle.shard.specs.Keeping.{owner_in, KeepsHistory}
use Rattle.shard.specs.Calls.{answer_in, after_in, reply_in, NeedsWrite, IsMarkedInDoubt, MayLeave}
use Rattle.shard.specs.Groups.{with_step, with_steps, changing_of, HaveStepsOr, AreInTurn, marked_by, AreMarkedInDoubt, MayLeaveAll}
use Rattle.shard.proofs.Growing.{doubt_step, doubt_mark}
use Rattle.shard.proofs.Replies.{due_written, due_marked}
use Rattle.shard.proofs.Shards.{keeps_alike}

-- of the three replies
which : (marked full : Bool) (r : Reply)
    → (cond marked Unavailable (cond full NoRoom r) ≡ Unavailable)
    ⊎ ((cond marked Unavailable (cond full NoRoom r) ≡ NoRoom) ⊎ (cond marked Unavailable (cond full NoRoom r) ≡ r))
which true full r = inl refl
which false true r = inr (inl refl)
which false false r = inr (inr refl)

which_due : (book : Booked) (call : Call) → (reply_in book call ≡ Unavailable) ⊎ ((reply_in book call ≡ NoRoom) ⊎ (reply_in book call ≡ answer_in book call))
unfolding reply_of
which_due book call = which (is_marked book.items) (changes (answer_in book call) && nat_lt book.about.capacity (room (after_in book call))) (answer_in book call)

changing_answer : (marked full : Bool) (r : Reply) → changes (cond marked Unavailable (cond full NoRoom r)) ≡ true → (marked ≡ false) × (full ≡ false) × (changes r ≡ true)
changing_answer true full r e = absurd (cc)
changing_answer false true r e = absurd (cc)
changing_answer false false r e = (refl, refl, e)

has_room : (b : Bool) (cap n : ℕ) → b ≡ true → (b && nat_lt cap n) ≡ false → n ≤ cap
has_room true cap n e f = grind (arith, nat_tests)
has_room false cap n e f = absurd (cc)

-- a reply that is due changes something where the call writes, and nowhere else
pub changes_writes : (book : Booked) (call : Call) → changes (reply_in book call) ≡ true → NeedsWrite book call
unfolding reply_of
changes_writes book call e =
    let changing = changes (answer_in book call) in
    let w = changing_answer (is_marked book.items) (changing && nat_lt book.about.capacity (room (after_in book call))) (answer_in book call) e in
    record { unmarked = w.0; changing = w.2; has_room = has_room changing book.about.capacity (room (after_in book call)) w.2 w.1 }

pub writes_changes : (book : Booked) (call : Call) → NeedsWrite book call → changes (reply_in book call) ≡ true
writes_changes book call w = ap changes (sym (due_written book call w)) ∙ w.changing

-- what a step of a call that writes, and of one that doesn't, makes of the meaning
pub step_written : (book : Booked) (ask : Ask) → NeedsWrite book ask.call → meaning (history_in (with_step book ask)) ≡ after_in book ask.call
step_written book ask w =
    ap (λ (r : Reply). meaning (then_step (history_in book) ask r)) (sym (due_written book ask.call w)) ∙ meaning-answered book.about.limits (history_in book) ask

pub step_same : (book : Booked) (ask : Ask) → changes (reply_in book ask.call) ≡ false → meaning (history_in (with_step book ask)) ≡ meaning (history_in book)
step_same book ask same =
    elim (which_due book ask.call) [
      | inl e ↦ ap (λ (r : Reply). meaning (then_step (history_in book) ask r)) e ∙ meaning-Unavailable (history_in book) ask
      | inr (inl e) ↦ ap (λ (r : Reply). meaning (then_step (history_in book) ask r)) e ∙ meaning-NoRoom (history_in book) ask
      | inr (inr e) ↦ ap (λ (r : Reply). meaning (then_step (history_in book) ask r)) e
          ∙ (meaning-answered book.about.limits (history_in book) ask ∙ after-unchanged book.about.limits (history_in book) ask.call (ap changes (sym e) ∙ same))
    ]

-- the calls that change something, each with its answer, lead to what all steps mean
pub steps_mean : (book : Booked) (asks : List Ask)
    → meaning (answered_to book.about.limits (history_in book) (changing_of book asks)) ≡ meaning (history_in (with_steps book asks))
steps_mean book [] = refl
steps_mean book (a ∷ asks) =
    let limits = book.about.limits in
    let h = history_in book in
    let next = with_step book a in
    let rest = changing_of next asks in
    let then : meaning (answered_to limits (history_in next) rest) ≡ meaning (history_in (with_steps next asks)) = steps_mean next asks in
    elim (changes (reply_in book a.call)) as (λ b. changes (reply_in book a.call) ≡ b → meaning (answered_to limits h (cond b (a ∷ rest) rest)) ≡ meaning (history_in (with_steps next asks))) [
      | true ↦ λ e. ap (λ (r : Reply). meaning (answered_to limits (then_step h a r) rest)) (due_written book a.call (changes_writes book a.call e)) ∙ then
      | false ↦ λ e. meaning-answered_to limits h (history_in next) rest (sym (step_same book a e)) ∙ then
    ] refl

-- steps keep the mark and the doubt
pub steps_marked : (book : Booked) (asks : List Ask) → is_marked (with_steps book asks).items ≡ is_marked book.items
steps_marked book [] = refl
steps_marked book (a ∷ asks) = steps_marked (with_step book a) asks ∙ marked_step book.items (step_of a (reply_in book a.call))

pub steps_doubt : (book : Booked) (asks : List Ask) → doubt_of (with_steps book asks).items ≡ doubt_of book.items
steps_doubt book [] = refl
steps_doubt book (a ∷ asks) = steps_doubt (with_step book a) asks ∙ doubt_step book.items (step_of a (reply_in book a.call))

-- after a mark each reply is `Unavailable`, and nothing changes
marked_after : (book : Booked) (ask : Ask) → is_marked book.items ≡ true → is_marked (with_step book ask).items ≡ true
marked_after book ask marked = marked_step book.items (step_of ask (reply_in book ask.call)) ∙ marked

still_after : (book : Booked) (ask : Ask) → is_marked book.items ≡ true → changes (reply_in book ask.call) ≡ false
still_after book ask marked = ap changes (sym (due_marked book ask.call marked))

pub failed_means : (book : Booked) (asks : List Ask) → is_marked book.items ≡ true → meaning (history_in (with_steps book asks)) ≡ meaning (history_in book)
failed_means book [] marked = refl
failed_means book (a ∷ asks) marked =
    failed_means (with_step book a) asks (marked_after book a marked) ∙ step_same book a (still_after book a marked)

-- what is kept of all steps is kept of none of them, with those that change something in doubt: so the doubt shrinks by one at each
pub rest_kept : (now : Pair) (book : Booked) (asks : List Ask) → is_marked book.items ≡ false
    → KeepsHistory now (with_steps book asks) [] → KeepsHistory now book (changing_of book asks)
rest_kept now book asks unmarked keeps a b x y =
    let all = changing_of book asks in
    let last = history_in (with_steps book asks) in
    let limits = book.about.limits in
    let k = keeps a b x y in
    let same : meaning (answered_to limits last (take k.0 [])) ≡ meaning (answered_to limits (history_in book) (take (length all) all)) =
    ap (λ (l : List Ask). meaning (answered_to limits last l)) (take-nil k.0) ∙ sym (steps_mean book asks)
    ∙ ap (λ (l : List Ask). meaning (answered_to limits (history_in book) l)) (sym (take-length all)) in
    (length all, omega arith, subst (λ (m : Streams). Recovers (owner_in book) a b m) same k.2)

-- after a mark it is kept with the mark's list
pub marked_kept : (now : Pair) (book : Booked) (asks doubt : List Ask) → is_marked book.items ≡ true
    → KeepsHistory now (with_steps book asks) doubt → KeepsHistory now book doubt
marked_kept now book asks doubt marked keeps = keeps_alike now (owner_in book) book.about.limits (history_in (with_steps book asks)) (history_in book) doubt (failed_means book asks marked) keeps

pub part_kept : (now : Pair) (book : Booked) (asks : List Ask)
    → KeepsHistory now (with_steps book asks) (doubt_of book.items) → KeepsHistory now book (doubt_or book.items (changing_of book asks))
part_kept now book asks keeps =
    elim (is_marked book.items) as (λ b. is_marked book.items ≡ b → KeepsHistory now book (doubt_or book.items (changing_of book asks))) [
      | true ↦ λ e. subst (λ (d : List Ask). KeepsHistory now book d) (sym (doubt_marked book.items (changing_of book asks) e)) (marked_kept now book asks (doubt_of book.items) e keeps)
      | false ↦ λ e. subst (λ (d : List Ask). KeepsHistory now book d) (sym (doubt_unmarked book.items (changing_of book asks) e))
          (rest_kept now book asks e (subst (λ (d : List Ask). KeepsHistory now (with_steps book asks) d) (doubt_unmarked book.items [] e) keeps))
    ] refl

-- after a failure the calls that change something are in doubt
pub failed_doubt : (book : Booked) (asks : List Ask) → is_marked book.items ≡ false → doubt_of (with_steps (marked_by book asks) asks).items ≡ changing_of book asks
failed_doubt book asks unmarked = steps_doubt (marked_by book asks) asks ∙ doubt_mark book.items (changing_of book asks) unmarked

-- the old streams or the new: the history with the mark, or with all calls in doubt after it
pub failed_allows : (now : Pair) (book : Booked) (asks : List Ask)
    → ((a b : List ℕ) → now.first.may_leave a → now.second.may_leave b → IsEither (owner_in book) (meaning (history_in book)) (meaning (history_in (with_steps book asks))) a b)
    → KeepsHistory now (marked_by book asks) (changing_of book asks)
failed_allows now book asks either a b x y =
    let all = changing_of book asks in
    let h = history_in book in
    let g = history_in (marked_by book asks) in
    let limits = book.about.limits in
    let still : meaning g ≡ meaning h = meaning-Failed h all in
    let next : meaning (answered_to limits g (take (length all) all)) ≡ meaning (history_in (with_steps book asks)) =
    ap (λ (l : List Ask). meaning (answered_to limits g l)) (take-length all)
    ∙ (meaning-answered_to limits g h all still ∙ steps_mean book asks) in
    elim (either a b x y) [
      | inl old ↦ (0, omega arith, subst (λ (m : Streams). Recovers (owner_in book) a b m) (sym still) old)
      | inr new ↦ (length all, omega arith, subst (λ (m : Streams). Recovers (owner_in book) a b m) (sym next) new)
    ]

-- a group of one is a call
one_reply : (r s : Reply) → r ∷ [] ≡ s ∷ [] → r ≡ s
one_reply r s e = cc

pub one_changing : (book : Booked) (ask : Ask) → NeedsWrite book ask.call → changing_of book (ask ∷ []) ≡ ask ∷ []
one_changing book ask writes = ap (λ (b : Bool). cond b (ask ∷ []) []) (writes_changes book ask.call writes)

pub one_refused : (book : Booked) (ask : Ask) → NeedsWrite book ask.call → with_steps (marked_by book (ask ∷ [])) (ask ∷ []) ≡ longer (longer book (Failed (ask ∷ []))) (Answered (step_of ask Unavailable))
one_refused book ask writes =
    let marked : Booked = longer book (Failed (ask ∷ [])) in
    ap (λ (l : List Ask). with_steps (longer book (Failed l)) (ask ∷ [])) (one_changing book ask writes)
    ∙ ap (λ (r : Reply). longer marked (Answered (step_of ask r))) (sym (due_marked marked ask.call (marked_mark book.items (ask ∷ []))))

pub one_lost : (old new : Pair) (book : Booked) (ticket : Announced) (behind : Booked) (reply : Reply) → NeedsWrite book ticket.ask.call
    → AreMarkedInDoubt old new book (ticket.ask ∷ []) behind (reply ∷ []) → IsMarkedInDoubt old new book ticket behind reply
one_lost old new book ticket behind reply writes lost = record {
  failure = lost.failure;
  unmarked = lost.unmarked;
  replied = one_reply reply Unavailable lost.replied;
  book = lost.book ∙ one_refused book ticket.ask writes;
}

-- and a crash leaves of it what it may leave of the call
pub one_may_leave : (book : Booked) (ask : Ask) (a b : List ℕ) → MayLeaveAll book (ask ∷ []) a b → MayLeave book ask.call a b
one_may_leave book ask a b (inl allowed) = inl allowed
one_may_leave book ask a b (inr recovers) =
    elim (changes (reply_in book ask.call)) as (λ c. changes (reply_in book ask.call) ≡ c → MayLeave book ask.call a b) [
      | true ↦ λ e.
          let writes = changes_writes book ask.call e in
          inr (writes, subst (λ (m : Streams). Recovers (owner_in book) a b m) (step_written book ask writes) recovers)
      | false ↦ λ e. inl (0, omega arith, subst (λ (m : Streams). Recovers (owner_in book) a b m) (step_same book ask e) recovers)
    ] refl

-- Turns.

-- calls in front that have a step now
pub turn_step : (asks : List Ask) (items more : List Item) (a : Ask) (front : List Ask) → HasStep a (steps_by a.pass (items ++ more))
    → HaveStepsOr asks items (a ∷ front) → HaveStepsOr asks (items ++ more) front
turn_step [] items more a front there h = tt
turn_step (b ∷ asks) items more a front there h = (
  elim h.0 [
    | inl s ↦ inl (have_more (b ∷ []) items more (s, tt)).0
    | inr (inl e) ↦ inl (subst (λ (c : Ask). HasStep c (steps_by c.pass (items ++ more))) e there)
    | inr (inr s) ↦ inr s
  ],
  turn_step asks items more a front there h.1,
)

pub turn_next : (items more : List Item) (a : Ask) (front : List Ask) (ts : List Announced) → HasStep a (steps_by a.pass (items ++ more))
    → AreInTurn items (a ∷ front) ts → AreInTurn (items ++ more) front ts
turn_next items more a front [] there h = tt
turn_next items more a front (t ∷ ts) there h = (turn_step t.before items more a front there h.0, turn_next items more a (front ++ t.ask ∷ []) ts there h.1)

pub turn_or : (asks : List Ask) (items more : List Item) (front : List Ask) → HaveStepsOr asks items front → HaveStepsOr asks (items ++ more) front
turn_or [] items more front h = tt
turn_or (b ∷ asks) items more front h = (
  elim h.0 [
    | inl s ↦ inl (have_more (b ∷ []) items more (s, tt)).0
    | inr s ↦ inr s
  ],
  turn_or asks items more front h.1,
)

-- more items
pub turn_more : (items more : List Item) (front : List Ask) (ts : List Announced) → AreInTurn items front ts → AreInTurn (items ++ more) front ts
turn_more items more front [] h = tt
turn_more items more front (t ∷ ts) h = (turn_or t.before items more front h.0, turn_more items more (front ++ t.ask ∷ []) ts h.1)

-- with none in front each has a step
pub turn_first : (asks : List Ask) (items : List Item) → HaveStepsOr asks items [] → HaveSteps asks items
turn_first [] items h = tt
turn_first (a ∷ asks) items h = (
  elim h.0 [
    | inl s ↦ s
    | inr s ↦ absurd s
  ],
  turn_first asks items h.1,
)

pub one_turn : (asks : List Ask) (items : List Item) → HaveSteps asks items → HaveStepsOr asks items []
one_turn [] items h = tt
one_turn (a ∷ asks) items h = (inl h.0, one_turn asks items h.1)
