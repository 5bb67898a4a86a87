-- What a step of one seat leaves of what the others know.
use Rattle.std.proofs.Common.{◌≡◌, ◌≢◌, ◌⊎◌, ℕ, zero, suc, ◌+◌, ◌<◌, List, [], ◌∷◌, ◌++◌, length, refl, sym, ap, ◌∙◌, subst, inl, inr, ⊎_elim, arith, slice_set, slice_index, length-set}
use Rattle.std.proofs.lemmas.List.{get_or-set_same, get_or-set_other, set-get_or}
use Rattle.history.proofs.Common.{some, some-injective, some-ne-none, get_elem?, State, Ask, Item, About, Caller, Shelf, View, Role, Nobody, Opener, Keeps, Calls, Token, Nothing, Open, Done, shard_in, TableContents, Seating, number_of, AccountOk, IsGood, AreWords, IsInDoubt, AreOpen, IsRole, IsHand, IsSeat, HoldsFor, KeepsRule, loose, cases_eq, put, put_all, put_both, put_two, put_two_at, put_two_else}
use Rattle.atomic_table.proofs.Lists.{at_set, set_else}
use Rattle.history.proofs.Accounts.{nothing_done, nothing_open}

-- what the seats other than b have is as it was
pub record Frame (about : About) (x : TableContents) (seats : Seating) (b : ℕ) (x' : TableContents) (seats' : Seating) : Type 0 where
  pub books : (k j : ℕ) → j ≢ b → seats.books k ≡ j → (seats'.books k ≡ j) × (x'.items k ≡ x.items k)
  pub passes : (p j : ℕ) → j ≢ b → seats.passes p ≡ j → (seats'.passes p ≡ j) × (x'.callers p ≡ x.callers p)
  pub hands : (j : ℕ) (t : Token) → j ≢ b → IsHand about x seats j t → IsHand about x' seats' j t
  pub doubts : (a : Ask) (j : ℕ) → j ≢ b → seats.books (shard_in about a) ≡ j → IsInDoubt a (x.tokens a.pass a.number) → IsInDoubt a (x'.tokens a.pass a.number)

open_kept : (about : About) (x x' : TableContents) (k : ℕ) → ((a : Ask) → shard_in about a ≡ k → IsInDoubt a (x.tokens a.pass a.number) → IsInDoubt a (x'.tokens a.pass a.number)) → (asks : List Ask) → AreOpen about x k asks → AreOpen about x' k asks
open_kept about x x' k f [] h = tt
open_kept about x x' k f (a ∷ asks) h = (h.0, h.1, f a h.1 h.2, open_kept about x x' k f asks h.3)

module _ (about : About) (x : TableContents) (seats : Seating) (b : ℕ) (x' : TableContents) (seats' : Seating) (f : Frame about x seats b x' seats') where
  pub role_kept : (j : ℕ) (role : Role) → j ≢ b → IsRole about x seats j role → IsRole about x' seats' j role
  role_kept j Nobody n h = tt
  role_kept j (Opener known c d) n h =
      (h.0, (λ k le. let m = h.1 k le in let t = f.books k j n m.0 in (t.0, t.1 ∙ m.1)), (λ p le. let m = h.2 p le in let t = f.passes p j n m.0 in (t.0, t.1 ∙ m.1)))
  role_kept j (Keeps shelf) n h =
      let t = f.books shelf.shard j n h.2 in
      (h.0, h.1, t.0, t.1 ∙ h.3, open_kept about x x' shelf.shard (λ a e o. f.doubts a j n (ap seats.books e ∙ h.2) o) shelf.doubt h.4)
  role_kept j (Calls c) n h = let t = f.passes c.pass j n h.2 in (h.0, h.1, t.0, t.1 ∙ h.3)

  pub seat_kept : (j : ℕ) (v : View) → j ≢ b → IsSeat about x seats j v → IsSeat about x' seats' j v
  seat_kept j v n h = record { role = role_kept j v.role n h.role; guest = role_kept j v.guest n h.guest; two = h.two; hand = f.hands j v.hand n h.hand }

  -- after a step of seat b
  pub seats_set : (views : List View) (w : View) → ((j : ℕ) (v : View) → get_elem? views j ≡ some v → IsSeat about x seats j v) → IsSeat about x' seats' b w
      → (j : ℕ) (v : View) → get_elem? (slice_set views b w) j ≡ some v → IsSeat about x' seats' j v
  seats_set views w all mine j v e = ⊎_elim
      (λ (t : (j ≡ b) × (w ≡ v)). subst (λ (z : ℕ × View). IsSeat about x' seats' z.0 z.1) (λ i. (sym t.0 i, t.1 i)) mine)
      (λ (t : (j ≢ b) × (get_elem? views j ≡ some v)). seat_kept j v t.0 (all j v t.1))
      (at_set views b j w v e)

  -- after seat b gave something to a new seat
  pub seats_split : (views : List View) (left right : View) → ((j : ℕ) (v : View) → get_elem? views j ≡ some v → IsSeat about x seats j v) → IsSeat about x' seats' b left → IsSeat about x' seats' (length views) right
      → (j : ℕ) (v : View) → get_elem? (slice_set views b left ++ right ∷ []) j ≡ some v → IsSeat about x' seats' j v
  seats_split views left right all mine new j v e = ⊎_elim
      (λ (t : get_elem? (slice_set views b left) j ≡ some v). seats_set views left all mine j v t)
      (λ (t : (j ≡ length (slice_set views b left)) × (right ≡ v)). subst (λ (z : ℕ × View). IsSeat about x' seats' z.0 z.1) (λ i. (sym (t.0 ∙ length-set views b left) i, t.1 i)) new)
      (at_new (slice_set views b left) right v j e)
    where
      at_new : {A : Type 0} (l : List A) (a b : A) (j : ℕ) → get_elem? (l ++ a ∷ []) j ≡ some b → (get_elem? l j ≡ some b) ⊎ ((j ≡ length l) × (a ≡ b))
      at_new [] a b zero e = inr (refl, some-injective a b e)
      at_new [] a b (suc j) e = absurd (some-ne-none b (sym e))
      at_new (x ∷ l) a b zero e = inl e
      at_new (x ∷ l) a b (suc j) e = ⊎_elim (λ (t : get_elem? l j ≡ some b). inl t) (λ (t : (j ≡ length l) × (a ≡ b)). inr (ap suc t.0, t.1)) (at_new l a b j e)

  -- after seat b gave something to seat id, and was left with nothing
  pub seats_join : (views : List View) (id : ℕ) (both : View) → ((j : ℕ) (v : View) → get_elem? views j ≡ some v → IsSeat about x seats j v) → IsSeat about x' seats' id both
      → (j : ℕ) (v : View) → get_elem? (slice_set (slice_set views id both) b loose) j ≡ some v → IsSeat about x' seats' j v
  seats_join views id both all mine j v e = ⊎_elim
      (λ (t : (j ≡ b) × (loose ≡ v)). subst (λ (z : View). IsSeat about x' seats' j z) t.1 (record { role = tt; guest = tt; two = tt; hand = tt }))
      (λ (t : (j ≢ b) × (get_elem? (slice_set views id both) j ≡ some v)). ⊎_elim
      (λ (u : (j ≡ id) × (both ≡ v)). subst (λ (z : ℕ × View). IsSeat about x' seats' z.0 z.1) (λ i. (sym u.0 i, u.1 i)) mine)
      (λ (u : (j ≢ id) × (get_elem? views j ≡ some v)). seat_kept j v t.0 (all j v u.1))
      (at_set views id j both v t.1))
      (at_set (slice_set views id both) b j loose v e)

-- hands know of calls alone
pub hand_same : (about : About) (x : TableContents) (seats : Seating) (items : ℕ → List Item) (callers : ℕ → Caller) (books passes : ℕ → ℕ) (j : ℕ) (t : Token) → IsHand about x seats j t
    → IsHand about (record { items = items; callers = callers; tokens = x.tokens }) (record { books = books; passes = passes; holders = seats.holders }) j t
hand_same about x seats items callers books passes j Nothing h = h
hand_same about x seats items callers books passes j t h = h

-- a seat that another was not
pub still_there : (views : List View) (id other : ℕ) (both w : View) → other ≢ id → get_elem? (slice_set views id both) other ≡ some w → get_elem? views other ≡ some w
still_there views id other both w n e = sym (set_else views id other both n) ∙ e

-- a call in another's hand is not call n of pass p, which is on no way, or in the hand of b
others_call : (x : TableContents) (seats : Seating) (p n b j : ℕ) (t : Token) (q m : ℕ) → (x.tokens p n ≡ Nothing) ⊎ (seats.holders p n ≡ b) → (Nothing ≡ t → ⊥) → j ≢ b → seats.holders q m ≡ j → x.tokens q m ≡ t → p ≡ q → n ≡ m → ⊥
others_call x seats p n b j t q m free some_call d held is e f = ⊎_elim
    (λ (z : x.tokens p n ≡ Nothing). some_call (sym z ∙ (λ i. x.tokens (e i) (f i)) ∙ is))
    (λ (z : seats.holders p n ≡ b). d (sym held ∙ (λ i. seats.holders (sym e i) (sym f i)) ∙ z))
    free

-- a hand that has nothing of call n of pass p
pub hand_put : (about : About) (x : TableContents) (seats : Seating) (p n b : ℕ) (t' : Token) (i' : ℕ) → (x.tokens p n ≡ Nothing) ⊎ (seats.holders p n ≡ b)
    → (items : ℕ → List Item) (callers : ℕ → Caller) (books passes : ℕ → ℕ) (j : ℕ) (t : Token) → j ≢ b → IsHand about x seats j t
    → IsHand about (record { items = items; callers = callers; tokens = put_two x.tokens p n t' }) (record { books = books; passes = passes; holders = put_two seats.holders p n i' }) j t
hand_put about x seats p n b t' i' free items callers books passes j Nothing d h = tt
hand_put about x seats p n b t' i' free items callers books passes j (Open a f e) d h =
    let apart = others_call x seats p n b j (Open a f e) a.pass a.number free (nothing_open a f e) d h.1 h.2 in
    (h.0, put_two_else seats.holders p n i' a.pass a.number apart ∙ h.1, put_two_else x.tokens p n t' a.pass a.number apart ∙ h.2)
hand_put about x seats p n b t' i' free items callers books passes j (Done s upto at) d h =
    let apart = others_call x seats p n b j (Done s upto at) s.ask.pass s.ask.number free (nothing_done s upto at) d h.1 h.2 in
    (h.0, put_two_else seats.holders p n i' s.ask.pass s.ask.number apart ∙ h.1, put_two_else x.tokens p n t' s.ask.pass s.ask.number apart ∙ h.2)

-- a call in doubt that is not the changed one, or stays as it is
pub doubt_put : (tokens : ℕ → ℕ → Token) (p n : ℕ) (t t' : Token) (a : Ask) → tokens p n ≡ t → (IsInDoubt a t → IsInDoubt a t') → IsInDoubt a (tokens a.pass a.number) → IsInDoubt a (put_two tokens p n t' a.pass a.number)
doubt_put tokens p n t t' a was f o = ⊎_elim
    (λ (e : p ≡ a.pass). ⊎_elim
    (λ (d : n ≡ a.number). subst (λ (u : Token). IsInDoubt a u) (sym (put_two_at tokens p n t' a.pass a.number e d)) (f (subst (λ (u : Token). IsInDoubt a u) ((λ i. tokens (sym e i) (sym d i)) ∙ was) o)))
    (λ (d : n ≢ a.number). stays (λ q r. d r))
    (cases_eq n a.number))
    (λ (e : p ≢ a.pass). stays (λ q r. e q))
    (cases_eq p a.pass)
  where
    stays : (p ≡ a.pass → n ≡ a.number → ⊥) → IsInDoubt a (put_two tokens p n t' a.pass a.number)
    stays apart = subst (λ (u : Token). IsInDoubt a u) (sym (put_two_else tokens p n t' a.pass a.number apart)) o

-- what is said of a pass, where the rule has its parts
pub account_at : (about : About) (x : TableContents) (p : ℕ) (c : Caller) → IsGood about x → p < about.passes → x.callers p ≡ c → AccountOk about x.items p c (x.tokens p)
account_at about x p c good lt is = subst (λ (z : Caller). AccountOk about x.items p z (x.tokens p)) is (good.passes p lt)

-- contents with another pass p, whose call n is changed
abbrev pub with_pass : TableContents → ℕ → ℕ → Caller → Token → TableContents
with_pass x p n c t = record { items = x.items; callers = put x.callers p c; tokens = put_two x.tokens p n t }

abbrev pub with_caller : TableContents → ℕ → Caller → TableContents
with_caller x p c = record { items = x.items; callers = put x.callers p c; tokens = x.tokens }

abbrev pub held_by : Seating → ℕ → ℕ → ℕ → Seating
held_by seats p n j = record seats { holders = put_two seats.holders p n j }

pub good_pass : (about : About) (x : TableContents) (p n : ℕ) (c : Caller) (t : Token) → IsGood about x → AccountOk about x.items p c (put (x.tokens p) n t) → IsGood about (with_pass x p n c t)
good_pass about x p n c t good ok = record {
  legal = good.legal;
  counted = good.counted;
  by_passes = good.by_passes;
  passes = put_both x.callers x.tokens p c (put (x.tokens p) n t) (λ q d u. q < about.passes → AccountOk about x.items q d u) (λ _. ok) (λ q m. good.passes q);
}

pub good_caller : (about : About) (x : TableContents) (p : ℕ) (c : Caller) → IsGood about x → AccountOk about x.items p c (x.tokens p) → IsGood about (with_caller x p c)
good_caller about x p c good ok = record {
  legal = good.legal;
  counted = good.counted;
  by_passes = good.by_passes;
  passes = put_all x.callers p c (λ q d. q < about.passes → AccountOk about x.items q d (x.tokens q)) (λ _. ok) (λ q n. good.passes q);
}

-- the pass's word gets the last number, or 0
pub words_pass : (about : About) (x : TableContents) (words : List ℕ) (p : ℕ) (c : Caller) (tokens : ℕ → ℕ → Token) (word : ℕ) → AreWords about x words → p < about.passes → word ≡ number_of c.last c.pending
    → AreWords about (record { items = x.items; callers = put x.callers p c; tokens = tokens }) (slice_set words (about.shards + p) word)
words_pass about x words p c tokens word h lt is = record {
  any = h.any;
  few = h.few;
  wide = length-set words (about.shards + p) word ∙ h.wide;
  lengths = λ k l. get_or-set_other words (about.shards + p) k word 0 (λ e. omega arith) ∙ h.lengths k l;
  numbers = put_all x.callers p c (λ q d. q < about.passes → slice_index (slice_set words (about.shards + p) word) (about.shards + q) ≡ number_of d.last d.pending)
      (λ _. get_or-set_same words (about.shards + p) word 0 (let w = h.wide in omega arith) ∙ is)
      (λ q n l. get_or-set_other words (about.shards + p) (about.shards + q) word 0 (λ e. n (omega arith)) ∙ h.numbers q l);
}

-- a pass sees more, and its word is as it was
pub words_look : (about : About) (x : TableContents) (words : List ℕ) (p : ℕ) (c : Caller) → AreWords about x words → p < about.passes → number_of (x.callers p).last (x.callers p).pending ≡ number_of c.last c.pending → AreWords about (with_caller x p c) words
words_look about x words p c h lt same = record {
  any = h.any;
  few = h.few;
  wide = h.wide;
  lengths = h.lengths;
  numbers = put_all x.callers p c (λ q d. q < about.passes → slice_index words (about.shards + q) ≡ number_of d.last d.pending) (λ l. h.numbers p l ∙ same) (λ q n. h.numbers q);
}

-- the words do not change
pub words_same : (about : About) (x : TableContents) (words : List ℕ) (i : ℕ) → AreWords about x words → AreWords about x (slice_set words i (slice_index words i))
words_same about x words i h = subst (λ ws. AreWords about x ws) (sym (set-get_or words i 0)) h

-- the rule, of the opening that a seat knows
pub pass_of : (s : State Unit View) (id : ℕ) (c : Caller) (guest : Role) (hand : Token) → KeepsRule s → get_elem? s.views id ≡ some (record { role = Calls c; guest = guest; hand = hand }) → HoldsFor c.about s
pass_of s id c guest hand h e = subst (λ b. HoldsFor b s) (sym (h.1.seats id (record { role = Calls c; guest = guest; hand = hand }) e).role.0) h.1

pub book_of : (s : State Unit View) (id : ℕ) (shelf : Shelf) (guest : Role) (hand : Token) → KeepsRule s → get_elem? s.views id ≡ some (record { role = Keeps shelf; guest = guest; hand = hand }) → HoldsFor shelf.about s
book_of s id shelf guest hand h e = subst (λ b. HoldsFor b s) (sym (h.1.seats id (record { role = Keeps shelf; guest = guest; hand = hand }) e).role.0) h.1
