-- A mark stands in a history only where a device failed, and slots that follow the model did so from the opening on.
use Rattle.std.proofs.Common.{◌≡◌, ◌⊎◌, true, false, cond, List, [], ◌∷◌, ◌++◌, refl, sym, ap, ◌∙◌, subst, inl, inr, ⊎_elim}
use Rattle.headline.proofs.Common.{Unavailable, Ask, Failed, Sight, Wal, Sharded, Lead, changes, is_marked, Pair, HasFailed, HasNoFailure, Follow, slots, step_of, Booked, asks_of, reply_in, IsCommitted, IsMarkedInDoubt, with_step, with_steps, changing_of, marked_by, Turn, AreTogether, IsTurn, Moment, Between, Within, IsMoment, FollowThen, shard_then, false≢true, cases_Bool, marked_step, marked_mark}
use Rattle.shard.proofs.Applied.{both_not}
use Rattle.shard.proofs.Groups.{steps_marked}
use Rattle.shard.proofs.Replies.{due_marked}
use Rattle.shard.proofs.Slots.{never_failed, failed_since, none_yet}

still_failed : (a b c : Pair) → HasFailed a b → HasNoFailure b c → HasFailed a c
still_failed a b c (inl f) h = inl (λ e. f (sym h.0 ∙ e))
still_failed a b c (inr f) h = inr (λ e. f (sym h.1 ∙ e))

-- after a mark nothing changes
none_after : (book : Booked) (asks : List Ask) → is_marked book.items ≡ true → changing_of book asks ≡ []
none_after book [] m = refl
none_after book (a ∷ asks) m =
    ap (λ b. cond b (a ∷ changing_of (with_step book a) asks) (changing_of (with_step book a) asks)) (ap changes (sym (due_marked book a.call m)))
    ∙ none_after (with_step book a) asks (marked_step book.items (step_of a (reply_in book a.call)) ∙ m)

module _ {D : Type 0} (sight : D → Sight) (follows : D → Type 0) where
  -- since this log was opened a call failed just where there is a mark
  pub record IsMarkedAsFailed (opened : Wal D) (s : Sharded D) : Type 0 where
    pub marked : is_marked s.book.items ≡ true → HasFailed (slots sight opened) (slots sight s.log)
    pub unmarked : is_marked s.book.items ≡ false → HasNoFailure (slots sight opened) (slots sight s.log)

  module _ (opened : Wal D) (t : Turn D) (old : IsMarkedAsFailed opened t.old) where
    -- no call fails, and no mark comes
    went : HasNoFailure (slots sight t.old.log) (slots sight t.new.log) → is_marked t.new.book.items ≡ is_marked t.old.book.items → IsMarkedAsFailed opened t.new
    went none same = record {
      marked = λ e. still_failed (slots sight opened) (slots sight t.old.log) (slots sight t.new.log) (old.marked (sym same ∙ e)) none;
      unmarked = λ e. never_failed (slots sight opened) (slots sight t.old.log) (slots sight t.new.log) (old.unmarked (sym same ∙ e)) none;
    }

    -- one fails, and a mark comes
    lost : HasFailed (slots sight t.old.log) (slots sight t.new.log) → is_marked t.old.book.items ≡ false → is_marked t.new.book.items ≡ true → IsMarkedAsFailed opened t.new
    lost failure before after = record {
      marked = λ e. failed_since (slots sight opened) (slots sight t.old.log) (slots sight t.new.log) (old.unmarked before) failure;
      unmarked = λ e. absurd (false≢true (sym e ∙ after));
    }

    -- in a shard with a mark no call is made that may fail
    was_unmarked : (h : AreTogether sight follows t) → HasFailed (slots sight t.old.log) (slots sight t.new.log) → is_marked t.old.book.items ≡ false
    was_unmarked h failure = ⊎_elim
        (λ (e : is_marked t.old.book.items ≡ true).
        let same : t.new.log ≡ t.old.log = h.applied.quiet (none_after t.old.book (asks_of h.front) e) in
        absurd (both_not (slots sight t.old.log) (slots sight t.new.log) failure (subst (λ (w : Wal D). HasNoFailure (slots sight t.old.log) (slots sight w)) (sym same) (none_yet (slots sight t.old.log)))))
        (λ (e : is_marked t.old.book.items ≡ false). e)
        (cases_Bool (is_marked t.old.book.items))

    turn_marks : IsTurn sight follows t → IsMarkedAsFailed opened t.new
    turn_marks (inl h) = ⊎_elim
        (λ (c : HasNoFailure (slots sight t.old.log) (slots sight t.new.log) × (t.new.book ≡ with_steps t.old.book (asks_of h.front)) × _).
        went c.0 (ap (λ (b : Booked). is_marked b.items) c.1 ∙ steps_marked t.old.book (asks_of h.front)))
        (λ (c : HasFailed (slots sight t.old.log) (slots sight t.new.log) × (t.new.book ≡ with_steps (marked_by t.old.book (asks_of h.front)) (asks_of h.front)) × _).
        lost c.0 (was_unmarked h c.0)
        (ap (λ (b : Booked). is_marked b.items) c.1 ∙ steps_marked (marked_by t.old.book (asks_of h.front)) (asks_of h.front) ∙ marked_mark t.old.book.items (changing_of t.old.book (asks_of h.front))))
        h.applied.stepped
    turn_marks (inr (inl h)) = ⊎_elim
        (λ (c : IsCommitted (slots sight t.old.log) (slots sight t.new.log) t.old.book h.job.ticket t.new.book h.reply).
        went c.no_failure (ap (λ (b : Booked). is_marked b.items) c.book ∙ marked_step t.old.book.items (step_of h.job.ticket.ask h.reply)))
        (λ (c : IsMarkedInDoubt (slots sight t.old.log) (slots sight t.new.log) t.old.book h.job.ticket t.new.book h.reply).
        lost c.failure c.unmarked
        (ap (λ (b : Booked). is_marked b.items) c.book ∙ marked_step (t.old.book.items ++ Failed (h.job.ticket.ask ∷ []) ∷ []) (step_of h.job.ticket.ask Unavailable) ∙ marked_mark t.old.book.items (h.job.ticket.ask ∷ [])))
        h.applied.step
    turn_marks (inr (inr h)) = subst (IsMarkedAsFailed opened) (sym h.same) old

  pub turn_follows : (t : Turn D) → IsTurn sight follows t → Follow follows t.new.log → Follow follows t.old.log
  turn_follows t (inl h) f = h.applied.before f
  turn_follows t (inr (inl h)) f = h.applied.before f
  turn_follows t (inr (inr h)) f = subst (λ (s : Sharded D). Follow follows s.log) h.same f

  -- at the start of the turn that was cut
  pub follow_before : (m : Moment D) → IsMoment sight follows m → FollowThen sight follows m → Follow follows (shard_then m).log
  follow_before (Between s) is f = f
  follow_before (Within t) is f = turn_follows t is.turn f

  pub lead_marks : (opened : Wal D) (start end : Sharded D) (ts : List (Turn D)) → IsMarkedAsFailed opened start → Lead sight follows start ts end → IsMarkedAsFailed opened end
  lead_marks opened start end [] m l = subst (IsMarkedAsFailed opened) (sym l) m
  lead_marks opened start end (t ∷ ts) m l = lead_marks opened t.new end ts (turn_marks opened t (subst (IsMarkedAsFailed opened) (sym l.0) m) l.1.turn) l.2

  pub lead_follows : (start end : Sharded D) (ts : List (Turn D)) → Lead sight follows start ts end → Follow follows end.log → Follow follows start.log
  lead_follows start end [] l f = subst (λ (s : Sharded D). Follow follows s.log) l f
  lead_follows start end (t ∷ ts) l f = subst (λ (s : Sharded D). Follow follows s.log) l.0 (turn_follows t l.1.turn (lead_follows t.new end ts l.2 f))

  -- as it was opened
  pub fresh_marks : (opened : Wal D) (book : Booked) → book.items ≡ [] → IsMarkedAsFailed opened (record { log = opened; book = book; opened = opened })
  fresh_marks opened book none = record {
    marked = λ e. absurd (false≢true (sym (ap is_marked none) ∙ e));
    unmarked = λ e. none_yet (slots sight opened);
  }
