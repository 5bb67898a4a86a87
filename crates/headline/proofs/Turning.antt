-- What a crash leaves of a shard between its opening and its end.
use Rattle.std.proofs.Common.{◌≡◌, ◌⊎◌, ℕ, zero, suc, Bool, true, false, List, [], ◌∷◌, ◌++◌, length, take, drop, refl, sym, ap, ◌∙◌, subst, inl, inr, ⊎_elim, append_assoc, append-nil, arith, Some, None, slice_get, slice_index_or}
use Rattle.std.proofs.Math.Seq.{take-length, take-nil}
use Rattle.headline.proofs.Common.{Unavailable, Ask, Item, Answered, Failed, About, Sight, Wal, ShardPlace, Sharded, Opening, meaning, answered_to, is_marked, place_of, Follow, slots, owner, IsOnDisk, Allows, Covers, is_even, Recovers, pair, slots_of, IsLegalAt, IsByPasses, base_at, history_of, reply_of, step_of, doubt_of, doubt_or, Booked, history_in, asks_of, fresh_book, MayLeave, IsCommitted, IsMarkedInDoubt, items_with, with_steps, changing_of, marked_by, MayLeaveAll, Turn, AreTogether, IsAlone, IsTurn, Thread, IsMade, Lead, Moment, Between, Within, Stretch, shard_then, calls_with_steps, made_in, writing_then, IsMoment, FollowThen, IsStretch, MayBeLeft, IsLeftThen, cases_Bool, doubt_marked, doubt_unmarked, legal_none}
use Rattle.accept.proofs.Meanings.{meaning-nothing}
use Rattle.wal.proofs.OneImage.{settled_covers}
use Rattle.shard.specs.Keeping.{owner_in, IsAllowed, KeepsHistory}
use Rattle.shard.proofs.Groups.{steps_mean, failed_means, step_written}
use Rattle.headline.proofs.Leaving.{IsOpenedAt}

drop_front : {A : Type 0} (xs ys : List A) → drop (length xs) (xs ++ ys) ≡ ys
drop_front [] ys = refl
drop_front (x ∷ xs) ys = drop_front xs ys

-- after what was there stand the steps of these calls, in their order
record AddsSteps (before after : List Item) (asks : List Ask) : Type 0 where
  pub more : List Item
  pub is : after ≡ before ++ more
  pub calls : calls_with_steps more ≡ asks

calls_added : (before after : List Item) (asks : List Ask) → AddsSteps before after asks → calls_with_steps (drop (length before) after) ≡ asks
calls_added before after asks a = ap (λ l. calls_with_steps (drop (length before) l)) a.is ∙ ap calls_with_steps (drop_front before a.more) ∙ a.calls

steps_added : (about : About) (k : ℕ) (items : List Item) (asks : List Ask) → AddsSteps items (items_with about k items asks) asks
steps_added about k items [] = record { more = []; is = sym (append-nil items); calls = refl }
steps_added about k items (a ∷ asks) =
    let s : Item = Answered (step_of a (reply_of about k items a.call)) in
    let rest = steps_added about k (items ++ s ∷ []) asks in
    record { more = s ∷ rest.more; is = rest.is ∙ append_assoc items (s ∷ []) rest.more; calls = ap (λ l. a ∷ l) rest.calls }

-- also where a mark stands before them
steps_marked : (about : About) (k : ℕ) (items : List Item) (doubt asks : List Ask) → AddsSteps items (items_with about k (items ++ Failed doubt ∷ []) asks) asks
steps_marked about k items doubt asks =
    let rest = steps_added about k (items ++ Failed doubt ∷ []) asks in
    record { more = Failed doubt ∷ rest.more; is = rest.is ∙ append_assoc items (Failed doubt ∷ []) rest.more; calls = rest.calls }

pub index_get : {A : Type 0} (xs : List A) (k : ℕ) (d x : A) → slice_get xs k ≡ Some x → slice_index_or xs k d ≡ x
index_get [] k d x e = let never : None ≡ Some x = e in absurd (cc)
index_get (y ∷ xs) zero d x e = let one : Some y ≡ Some x = e in cc
index_get (y ∷ xs) (suc k) d x e = index_get xs k d x e

-- what a book's slots may hold, as the opening's
as_opening : (about : About) (k : ℕ) (book : Booked) (doubt : List Ask) (a b : List ℕ) → book.about ≡ about → book.shard ≡ k → IsAllowed book doubt a b → Allows (place_of k about.shards) about.limits (history_of about k book.items) doubt a b
as_opening about k book doubt a b e f allowed =
    subst (λ (j : ℕ). Allows (place_of j about.shards) about.limits (history_of about j book.items) doubt a b) f
    (subst (λ (x : About). Allows (place_of book.shard x.shards) x.limits (history_of x book.shard book.items) doubt a b) e allowed)

-- with no call in doubt, or with the mark's
allowed_or : (book : Booked) (asks : List Ask) (a b : List ℕ) → IsAllowed book (doubt_of book.items) a b → IsAllowed book (doubt_or book.items asks) a b
allowed_or book asks a b (j, le, found) = ⊎_elim
    (λ (m : is_marked book.items ≡ true). subst (λ (d : List Ask). IsAllowed book d a b) (sym (doubt_marked book.items asks m)) (j, le, found))
    (λ (m : is_marked book.items ≡ false).
    let none : doubt_of book.items ≡ [] = doubt_unmarked book.items [] m in
    let first : take j (doubt_of book.items) ≡ [] = ap (take j) none ∙ take-nil j in
    (0, omega arith, subst (λ (d : List Ask). Recovers (owner_in book) a b (meaning (answered_to book.about.limits (history_in book) d))) first found))
    (cases_Bool (is_marked book.items))

-- the streams after all calls of a group are those after the calls that it writes
all_allowed : (book : Booked) (asks : List Ask) (a b : List ℕ) → Recovers (owner_in book) a b (meaning (history_in (with_steps book asks))) → IsAllowed book (doubt_or book.items (changing_of book asks)) a b
all_allowed book asks a b found = ⊎_elim
    (λ (m : is_marked book.items ≡ true). (0, omega arith, subst (Recovers (owner_in book) a b) (failed_means book asks m) found))
    (λ (m : is_marked book.items ≡ false).
    let written : List Ask = changing_of book asks in
    let its : IsAllowed book written a b = (
      length written,
      omega arith,
      subst (λ (d : List Ask). Recovers (owner_in book) a b (meaning (answered_to book.about.limits (history_in book) d))) (sym (take-length written))
          (subst (Recovers (owner_in book) a b) (sym (steps_mean book asks)) found),
    ) in
    subst (λ (d : List Ask). IsAllowed book d a b) (sym (doubt_unmarked book.items written m)) its)
    (cases_Bool (is_marked book.items))

group_allowed : (book : Booked) (asks : List Ask) (a b : List ℕ) → MayLeaveAll book asks a b → IsAllowed book (doubt_or book.items (changing_of book asks)) a b
group_allowed book asks a b (inl old) = allowed_or book (changing_of book asks) a b old
group_allowed book asks a b (inr new) = all_allowed book asks a b new

-- a call that goes alone is a group of one
one_group : (book : Booked) (ask : Ask) (a b : List ℕ) → MayLeave book ask.call a b → MayLeaveAll book (ask ∷ []) a b
one_group book ask a b (inl old) = inl old
one_group book ask a b (inr (w, found)) = inr (subst (Recovers (owner_in book) a b) (sym (step_written book ask w)) found)

-- a turn leaves a book of the same shard of the same opening, in the same table
pub same_book : {D : Type 0} (sight : D → Sight) (follows : D → Type 0) (t : Turn D) → IsTurn sight follows t → (t.new.book.about ≡ t.old.book.about) × (t.new.book.shard ≡ t.old.book.shard) × (t.new.book.table ≡ t.old.book.table)
same_book {D = D} sight follows t (inl h) = ⊎_elim
    (λ (c : _ × (t.new.book ≡ with_steps t.old.book (asks_of h.front)) × _). (ap (λ (b : Booked). b.about) c.1, ap (λ (b : Booked). b.shard) c.1, ap (λ (b : Booked). b.table) c.1))
    (λ (c : _ × (t.new.book ≡ _) × _). (ap (λ (b : Booked). b.about) c.1, ap (λ (b : Booked). b.shard) c.1, ap (λ (b : Booked). b.table) c.1))
    h.applied.stepped
same_book {D = D} sight follows t (inr (inl h)) = ⊎_elim
    (λ (c : IsCommitted (slots sight t.old.log) (slots sight t.new.log) t.old.book h.job.ticket t.new.book h.reply). (ap (λ (b : Booked). b.about) c.book, ap (λ (b : Booked). b.shard) c.book, ap (λ (b : Booked). b.table) c.book))
    (λ (c : IsMarkedInDoubt (slots sight t.old.log) (slots sight t.new.log) t.old.book h.job.ticket t.new.book h.reply). (ap (λ (b : Booked). b.about) c.book, ap (λ (b : Booked). b.shard) c.book, ap (λ (b : Booked). b.table) c.book))
    h.applied.step
same_book {D = D} sight follows t (inr (inr h)) = (ap (λ (s : Sharded D). s.book.about) h.same, ap (λ (s : Sharded D). s.book.shard) h.same, ap (λ (s : Sharded D). s.book.table) h.same)

module _ {D : Type 0} (sight : D → Sight) (follows : D → Type 0) (only_now : (d : D) (c : List ℕ) → follows d → (sight d).left_since (sight d).moment c → (sight d).may_leave c) where
  -- a crash since now leaves what a crash now may leave
  since_now : (log : Wal D) (a b : List ℕ) → Follow follows log → (slots sight log).first.left_since (slots sight log).first.moment a → (slots sight log).second.left_since (slots sight log).second.moment b → (slots sight log).first.may_leave a × (slots sight log).second.may_leave b
  since_now log a b f x y = by (is_even log.generation) x y
    where
      by : (even : Bool) → (pair even (sight log.active) (sight log.spare)).first.left_since (pair even (sight log.active) (sight log.spare)).first.moment a → (pair even (sight log.active) (sight log.spare)).second.left_since (pair even (sight log.active) (sight log.spare)).second.moment b
          → (pair even (sight log.active) (sight log.spare)).first.may_leave a × (pair even (sight log.active) (sight log.spare)).second.may_leave b
      by true p q = (only_now log.active a f.0 p, only_now log.spare b f.1 q)
      by false p q = (only_now log.spare a f.1 p, only_now log.active b f.0 q)

  -- a shard between two turns
  pub record Rests (about : About) (k : ℕ) (s : Sharded D) : Type 0 where
    pub about_is : s.book.about ≡ about
    pub number : s.book.shard ≡ k
    pub legal : IsLegalAt about k s.book.items
    pub by_passes : IsByPasses about.passes s.book.items
    pub covers : Follow follows s.log → KeepsHistory (slots sight s.log) s.book (doubt_of s.book.items)

  made_rests : (about : About) (k : ℕ) (t : Turn D) → Rests about k t.old → IsMade sight follows t → Rests about k t.new
  made_rests about k t r m =
      let same = same_book sight follows t m.turn in
      let of : t.new.book.about ≡ about = same.0 ∙ r.about_is in
      record {
        about_is = of;
        number = same.1 ∙ r.number;
        legal = subst (λ (a : About). IsLegalAt a k t.new.book.items) of (subst (λ (j : ℕ). IsLegalAt t.new.book.about j t.new.book.items) (same.1 ∙ r.number) m.legal);
        by_passes = subst (λ (a : About). IsByPasses a.passes t.new.book.items) of m.by_passes;
        covers = m.covered;
      }

  lead_rests : (about : About) (k : ℕ) (start end : Sharded D) (ts : List (Turn D)) → Rests about k start → Lead sight follows start ts end → Rests about k end
  lead_rests about k start end [] r l = subst (Rests about k) (sym l) r
  lead_rests about k start end (t ∷ ts) r l = lead_rests about k t.new end ts (made_rests about k t (subst (Rests about k) (sym l.0) r) l.1) l.2

  -- as it was opened
  start_rests : (opening : Opening D) (count capacity k : ℕ) (log : Wal D) → opening.about.shards ≡ count → IsOpenedAt sight follows count capacity k log opening.about.bases
      → Rests opening.about k (record { log = log; book = fresh_book opening.table opening.about k; opened = log })
  start_rests opening count capacity k log counted o = record {
    about_is = refl;
    number = refl;
    legal = legal_none opening.about k;
    by_passes = tt;
    covers = λ f.
        let base : base_at opening.about k ≡ o.m = index_get opening.about.bases k _ o.m o.there in
        let means : o.m ≡ meaning (history_of opening.about k []) = sym (meaning-nothing (base_at opening.about k) ∙ base) in
        let settled : IsOnDisk sight log (meaning (history_of opening.about k [])) = subst (IsOnDisk sight log) means (o.opened.settled f) in
        let whose : owner log ≡ place_of k opening.about.shards = o.opened.same_owner ∙ ap (place_of k) (sym counted) in
        subst (λ (w : ShardPlace). Covers w opening.about.limits (slots sight log) (history_of opening.about k []) []) whose (settled_covers sight log opening.about.limits (history_of opening.about k []) [] settled);
  }

  -- the calls of a group, or the one that goes alone, are those that the turn makes
  group_makes : (t : Turn D) (h : AreTogether sight follows t) → made_in t ≡ asks_of h.front
  group_makes t h =
      let old : Booked = t.old.book in
      let asks : List Ask = asks_of h.front in
      let adds : (b : Booked) → t.new.book ≡ b → AddsSteps old.items b.items asks → made_in t ≡ asks = λ b e a.
      calls_added old.items t.new.book.items asks (subst (λ (x : Booked). AddsSteps old.items x.items asks) (sym e) a) in
      ⊎_elim
      (λ (c : _ × (t.new.book ≡ with_steps old asks) × _). adds (with_steps old asks) c.1 (steps_added old.about old.shard old.items asks))
      (λ (c : _ × (t.new.book ≡ with_steps (marked_by old asks) asks) × _). adds (with_steps (marked_by old asks) asks) c.1 (steps_marked old.about old.shard old.items (changing_of old asks) asks))
      h.applied.stepped

  alone_makes : (t : Turn D) (h : IsAlone sight follows t) → made_in t ≡ h.job.ticket.ask ∷ []
  alone_makes t h =
      let items : List Item = t.old.book.items in
      let ask : Ask = h.job.ticket.ask in
      let last : Item = Answered (step_of ask h.reply) in
      let refused : Item = Answered (step_of ask Unavailable) in
      calls_added items t.new.book.items (ask ∷ []) (⊎_elim
      (λ (c : IsCommitted (slots sight t.old.log) (slots sight t.new.log) t.old.book h.job.ticket t.new.book h.reply).
      record { more = last ∷ []; is = ap (λ (b : Booked). b.items) c.book; calls = refl })
      (λ (c : IsMarkedInDoubt (slots sight t.old.log) (slots sight t.new.log) t.old.book h.job.ticket t.new.book h.reply).
      record { more = Failed (ask ∷ []) ∷ refused ∷ []; is = ap (λ (b : Booked). b.items) c.book ∙ append_assoc items (Failed (ask ∷ []) ∷ []) (refused ∷ []); calls = refl })
      h.applied.step)

  -- in the middle of a turn a crash leaves the history before it and a beginning of the calls that it writes
  within_turn : (about : About) (k : ℕ) (t : Turn D) (a b : List ℕ) → Rests about k t.old → IsMade sight follows t → Follow follows t.new.log
      → MayBeLeft sight follows (Within t) a b → IsAllowed t.old.book (writing_then (Within t)) a b
  within_turn about k t a b r m f left = by m.turn
    where
      by : IsTurn sight follows t → IsAllowed t.old.book (writing_then (Within t)) a b
      by (inl h) =
          subst (λ (asks : List Ask). IsAllowed t.old.book (doubt_or t.old.book.items (changing_of t.old.book asks)) a b) (sym (group_makes t h))
          (group_allowed t.old.book (asks_of h.front) a b ((h.applied.any_moment f).each a b left.0 left.1))
      by (inr (inl h)) =
          subst (λ (asks : List Ask). IsAllowed t.old.book (doubt_or t.old.book.items (changing_of t.old.book asks)) a b) (sym (alone_makes t h))
          (group_allowed t.old.book (h.job.ticket.ask ∷ []) a b (one_group t.old.book h.job.ticket.ask a b ((h.applied.any_moment f).each a b left.0 left.1)))
      by (inr (inr h)) =
          let g : Follow follows t.old.log = subst (λ (s : Sharded D). Follow follows s.log) h.same f in
          let there = subst (λ (s : Sharded D). (slots sight s.log).first.left_since (slots sight t.old.log).first.moment a × (slots sight s.log).second.left_since (slots sight t.old.log).second.moment b) h.same left in
          let now = since_now t.old.log a b g there.0 there.1 in
          allowed_or t.old.book (changing_of t.old.book (made_in t)) a b (r.covers g a b now.0 now.1)

  -- at any moment
  pub moment_covers : (about : About) (k : ℕ) (m : Moment D) (left : List D) → Rests about k (shard_then m) → IsMoment sight follows m → FollowThen sight follows m
      → IsLeftThen sight follows m left → Covers (place_of k about.shards) about.limits (slots_of sight left) (history_of about k (shard_then m).book.items) (writing_then m)
  moment_covers about k (Between s) left r is f l = λ a b x y.
      let c = l.crash a b x y in
      as_opening about k s.book (doubt_of s.book.items) a b r.about_is r.number (r.covers f a b c.0 c.1)
  moment_covers about k (Within t) left r is f l = λ a b x y.
      as_opening about k t.old.book (writing_then (Within t)) a b r.about_is r.number (within_turn about k t a b r is f (l.crash a b x y))

  pub stretch_rests : (opening : Opening D) (threads : List Thread) (count capacity k : ℕ) (st : Stretch D) (is : IsStretch sight follows opening threads k st) → opening.about.shards ≡ count → IsOpenedAt sight follows count capacity k is.opened opening.about.bases → Rests opening.about k (shard_then st.moment)
  stretch_rests opening threads count capacity k st is counted o = lead_rests opening.about k _ (shard_then st.moment) st.turns (start_rests opening count capacity k is.opened counted o) is.turned

  pub stretch_covers : (opening : Opening D) (threads : List Thread) (count capacity k : ℕ) (st : Stretch D) (left : List D) (is : IsStretch sight follows opening threads k st) → opening.about.shards ≡ count → IsOpenedAt sight follows count capacity k is.opened opening.about.bases → IsLeftThen sight follows st.moment left
      → Covers (place_of k opening.about.shards) opening.about.limits (slots_of sight left) (history_of opening.about k (shard_then st.moment).book.items) (writing_then st.moment)
  stretch_covers opening threads count capacity k st left is counted o l =
      let r = stretch_rests opening threads count capacity k st is counted o in
      moment_covers opening.about k st.moment left r is.moment is.follow l
