-- What a pass knows stays right at each step.
use Rattle.std.proofs.Common.{◌≡◌, ◌≢◌, ◌⊎◌, ℕ, zero, suc, ◌+◌, ◌<◌, ◌≤◌, List, [], ◌∷◌, ◌++◌, length, Bool, true, false, cond, eqb, refl, sym, ap, ◌∙◌, subst, inl, inr, ⊎_elim, append_assoc, append-nil, arith, length-append, length-set, slice_index_or, slice_set, get_or-set_same, get_or-set_other}
use Rattle.std.proofs.lemmas.List.{append_cancel_left, length-replicate}
use Rattle.history.proofs.Common.{Call, Reply, Ask, Step, Item, Answered, About, Caller, Token, Nothing, Open, Done, IsBeginning, shard_in, step_of, steps_by, steps_on, asks_by, HaveNumbersBelow, HaveNumbersAbove, IsRising, IsUnused, AreUnused, HasStep, HaveSteps, IsAmong, AreAmong, IsFirst, IsFirstNumber, IsFirstIfAmong, behind_on, asks_on, asks_beside, numbers_of, AreSpent, bound, AccountOk, HasOwn, IsOfOpenCall, AreOfOpenCalls, IsOrdered, IsQueue, TokenOk, newcomer, floor_of, IsOnItsWay, AreTold, seen_at, ask_of, before_of, announce_to, look_to, AreHis, HasStepsOf, IsRestedAt, IsRested, IsNextOn, IsFirstOf, IsFirstSaid, IsNextSaid, StaysRested, collect_at, Extends, cases_eq, put, put_at, put_else, put_all, begins_same, begins_more, begins_trans, in_line, replicate_at, last_or_none, last_same}
use Rattle.history.proofs.Past.{AreFrom, among_all, among_there, same_number, first_numbered, steps_append, asks_step, steps_mine, steps_begin, on_here, on_else, below_more, below_last, below_middle, rising_last, rising_back, rising_front, parted, unused_number, unused_step, unused_both, unused_made, unused_on, numbers_last, made_left, made_last, not_made, has_step, among_left, among_last, among_on, among_floor, queue_last, floor_first, first_by_number, asks_on_append, queue_on, queue_left, few_left, left_here, among_left_on, first_there, length_left, spent_left, own_free, floor_stays, spent_last, spent_more}

-- what is told of calls, after a change of the one with number n
pub told_put : (made made' : List Step) (ts : ℕ → Token) (n : ℕ) (t' : Token) → ((a : Ask) → HasStep a made → HasStep a made') → ((a : Ask) → IsOnItsWay a (ts n) → HasStep a made' ⊎ IsOnItsWay a t') → (asks : List Ask) → AreTold made ts asks → AreTold made' (put ts n t') asks
told_put made made' ts n t' f g [] h = tt
told_put made made' ts n t' f g (a ∷ asks) h = (
  ⊎_elim
      (λ (m : HasStep a made). inl (f a m))
      (λ (o : IsOnItsWay a (ts a.number)). ⊎_elim
      (λ (e : n ≡ a.number). subst (λ (t : Token). HasStep a made' ⊎ IsOnItsWay a t) (sym (put_at ts n t' a.number e)) (g a (subst (λ (m : ℕ). IsOnItsWay a (ts m)) (sym e) o)))
      (λ (d : n ≢ a.number). inr (subst (λ (t : Token). IsOnItsWay a t) (sym (put_else ts n t' a.number d)) o))
      (cases_eq n a.number))
      h.0,
  told_put made made' ts n t' f g asks h.1,
)

pub told_append : (made : List Step) (ts : ℕ → Token) (xs ys : List Ask) → AreTold made ts xs → AreTold made ts ys → AreTold made ts (xs ++ ys)
told_append made ts [] ys h k = k
told_append made ts (a ∷ xs) ys h k = (h.0, told_append made ts xs ys h.1 k)

-- what is seen, where one shard's part is replaced
pub seen_set : (P : ℕ → List Item → Type 0) (l : List (List Item)) (k : ℕ) (new : List Item) → ((j : ℕ) → P j (slice_index_or l j [])) → P k new → (j : ℕ) → P j (slice_index_or (slice_set l k new) j [])
seen_set P [] k new f b j = f j
seen_set P (y ∷ l) zero new f b zero = b
seen_set P (y ∷ l) zero new f b (suc j) = f (suc j)
seen_set P (y ∷ l) (suc k) new f b zero = f zero
seen_set P (y ∷ l) (suc k) new f b (suc j) = seen_set (λ i x. P (suc i) x) l k new (λ i. f (suc i)) b j

pub open_done : (a : Ask) (f : Bool) (e : List Ask) (s : Step) (upto : List Item) (at : ℕ × ℕ) → Open a f e ≡ Done s upto at → ⊥
open_done a f e s upto at q = cc

pub nothing_done : (s : Step) (upto : List Item) (at : ℕ × ℕ) → Nothing ≡ Done s upto at → ⊥
nothing_done s upto at q = cc

pub nothing_open : (a : Ask) (f : Bool) (e : List Ask) → Nothing ≡ Open a f e → ⊥
nothing_open a f e q = cc

one_step : (s r : Step) (upto upto' : List Item) (at at' : ℕ × ℕ) → Done s upto at ≡ Done r upto' at' → s ≡ r
one_step s r upto upto' at at' q = cc

pub one_open : (a b : Ask) (f g : Bool) (d e : List Ask) → Open a f d ≡ Open b g e → (a ≡ b) × (d ≡ e)
one_open a b f g d e q = ((cc), (cc))

-- steps that wait still do, after a change of the call with number n
module _ (about : About) (k : ℕ) (ts : ℕ → Token) (n : ℕ) (t' : Token) where
  wait_put : (s : Step) → n ≢ s.ask.number → IsOfOpenCall about k ts s → IsOfOpenCall about k (put ts n t') s
  wait_put s d w = record { upto = w.upto; at = w.at; here = w.here; is = put_else ts n t' s.ask.number d ∙ w.is }

  pub waits_put : (ss : List Step) → ((s : Step) → IsOfOpenCall about k ts s → n ≢ s.ask.number) → AreOfOpenCalls about k ts ss → AreOfOpenCalls about k (put ts n t') ss
  waits_put [] f w = tt
  waits_put (s ∷ ss) f w = (wait_put s (f s w.0) w.0, waits_put ss f w.1)

  pub waits_above : (ss : List Step) → HaveNumbersAbove n ss → AreOfOpenCalls about k ts ss → AreOfOpenCalls about k (put ts n t') ss
  waits_above [] a w = tt
  waits_above (s ∷ ss) a w = (wait_put s (λ e. let above = a.0 in omega arith) w.0, waits_above ss a.1 w.1)

pub waits_last : (about : About) (k : ℕ) (ts : ℕ → Token) (ss : List Step) (s : Step) → AreOfOpenCalls about k ts ss → IsOfOpenCall about k ts s → AreOfOpenCalls about k ts (ss ++ s ∷ [])
waits_last about k ts [] s w l = (l, tt)
waits_last about k ts (x ∷ ss) s w l = (w.0, waits_last about k ts ss s w.1 l)

-- a number that no waiting step has, since its call has none
pub waits_unused : (about : About) (k : ℕ) (ts : ℕ → Token) (n : ℕ) (ss : List Step) → ((s : Step) → IsOfOpenCall about k ts s → n ≢ s.ask.number) → AreOfOpenCalls about k ts ss → IsUnused n ss
waits_unused about k ts n [] f w = tt
waits_unused about k ts n (s ∷ ss) f w = ((λ e. f s w.0 (sym e)), waits_unused about k ts n ss f w.1)

-- calls without a step stay in order, where each of them was one
pub order_map : (about : About) (ts ts' : ℕ → Token) → ((m : ℕ) (b : Ask) (g : Bool) (d : List Ask) → ts' m ≡ Open b g d → (g' : Bool) × (ts m ≡ Open b g' d)) → IsOrdered about ts → IsOrdered about ts'
order_map about ts ts' back order a b f g d e x y here less =
    let one = back a.number a f d x in
    let two = back b.number b g e y in
    order a b one.0 two.0 d e one.1 two.1 here less

pub order_put : (about : About) (ts : ℕ → Token) (n : ℕ) (t' : Token) → ((a : Ask) (f : Bool) (d : List Ask) → t' ≡ Open a f d → ⊥) → IsOrdered about ts → IsOrdered about (put ts n t')
order_put about ts n t' shut = order_map about ts (put ts n t') (λ m b g d q. ⊎_elim
    (λ (e : n ≡ m). absurd (shut b g d (sym (put_at ts n t' m e) ∙ q)))
    (λ (u : n ≢ m). (g, sym (put_else ts n t' m u) ∙ q))
    (cases_eq n m))

-- a call of a pass with no open call is on no way
pub no_token : (about : About) (items : ℕ → List Item) (p n : ℕ) (t : Token) → TokenOk about items p [] n t → t ≡ Nothing
no_token about items p n Nothing h = refl
no_token about items p n (Open a f e) h = absurd h.2
no_token about items p n (Done s upto at) h = absurd h.2

module _ (about : About) (items : ℕ → List Item) (p : ℕ) (c : Caller) (ts : ℕ → Token) (h : AccountOk about items p c ts) where
  -- what a token says is so
  pub token_ok : (n : ℕ) (t : Token) → ts n ≡ t → TokenOk about items p c.pending n t
  token_ok n t is = subst (λ (u : Token). TokenOk about items p c.pending n u) is (h.way.tokens n)

  -- a number above the last is of no call
  pub free_number : (n : ℕ) → c.last < n → ts n ≡ Nothing
  free_number n above = free (ts n) (h.way.tokens n)
    where
      free : (t : Token) → TokenOk about items p c.pending n t → t ≡ Nothing
      free Nothing k = refl
      free (Open a f e) k = absurd (let low = (among_floor a c.last c.pending h.numbers.queue k.2).1 in let same = k.0 in omega arith)
      free (Done s upto at) k = absurd (let low = (among_floor s.ask c.last c.pending h.numbers.queue k.2).1 in let same = k.0 in omega arith)

  -- an open call is one of those that are pending
  open_among : (a b : Ask) (f : Bool) (e : List Ask) → ts b.number ≡ Open a f e → IsAmong a c.pending
  open_among a b f e is = (token_ok b.number (Open a f e) is).2

  waiting_among : (k : ℕ) (ss : List Step) → AreOfOpenCalls about k ts ss → AreAmong ss c.pending
  waiting_among k [] w = tt
  waiting_among k (s ∷ ss) w = ((token_ok s.ask.number (Done s w.0.upto w.0.at) w.0.is).2, waiting_among k ss w.1)

  waiting_from : (k n : ℕ) (ss : List Step) → n ≤ floor_of c.last (asks_on about k c.pending) → AreOfOpenCalls about k ts ss → AreFrom n ss
  waiting_from k n [] l w = tt
  waiting_from k n (s ∷ ss) l w =
      let there = among_on about k s.ask c.pending (sym w.0.here) (token_ok s.ask.number (Done s w.0.upto w.0.at) w.0.is).2 in
      ((let low = (among_floor s.ask c.last (asks_on about k c.pending) (queue_on about k c.last c.pending h.numbers.queue) there).0 in omega arith), waiting_from k n ss l w.1)

  -- the call that is announced
  module _ (call : Call) (n : ℕ) (above : c.last < n) where
    abbrev new : Ask
    new = ask_of c n call

    abbrev new_token : Token
    new_token = Open new false (before_of c n call)

    announced_order : c.about ≡ about → IsOrdered about (put ts n new_token)
    announced_order at a b f g d e x y here less = ⊎_elim
        (λ (later : n ≡ b.number). announced_later later)
        (λ (other : n ≢ b.number). announced_earlier other)
        (cases_eq n b.number)
      where
        announced_later : n ≡ b.number → IsAmong a e
        announced_later later =
            let same = one_open new b false g (before_of c n call) e (sym (put_at ts n new_token b.number later) ∙ y) in
            let earlier : n ≢ a.number = λ q. omega arith in
            let old : ts a.number ≡ Open a f d = sym (put_else ts n new_token a.number earlier) ∙ x in
            let on_it : shard_in c.about new ≡ shard_in c.about a = ap (λ (q : Ask). shard_in c.about q) same.0 ∙ ap (λ (o : About). shard_in o b) at ∙ sym here ∙ ap (λ (o : About). shard_in o a) (sym at) in
            subst (λ (l : List Ask). IsAmong a l) same.1 (among_on c.about (shard_in c.about new) a c.pending on_it (open_among a a f d old))

        announced_earlier : n ≢ b.number → IsAmong a e
        announced_earlier other =
            let old : ts b.number ≡ Open b g e = sym (put_else ts n new_token b.number other) ∙ y in
            let most = (among_floor b c.last c.pending h.numbers.queue (open_among b b g e old)).1 in
            let apart : n ≢ a.number = λ q. omega arith in
            h.way.order a b f g d e (sym (put_else ts n new_token a.number apart) ∙ x) old here less

    announced_token : (m : ℕ) → n ≢ m → (t : Token) → TokenOk about items p c.pending m t → TokenOk about items p (c.pending ++ new ∷ []) m t
    announced_token m u Nothing k = tt
    announced_token m u (Open a f e) k = (k.0, k.1, among_left a c.pending (new ∷ []) k.2, k.3)
    announced_token m u (Done s upto at) k = (k.0, k.1, among_left s.ask c.pending (new ∷ []) k.2, k.3, k.4)

    pub announced_ok : c.about ≡ about → n < bound → length c.pending < 64 → AccountOk about items p (announce_to c n call) (put ts n new_token)
    announced_ok at small few =
        let free = free_number n above in record {
          named = h.named;
          numbers = record {
            within = small;
            queue = queue_last c.last n c.pending new h.numbers.queue above refl;
            few = let e = length-append c.pending (new ∷ []) in omega arith;
            rises = λ k. below_more (floor_of c.last (asks_on about k c.pending)) (floor_of n (asks_on about k (c.pending ++ new ∷ []))) (steps_on about k c.made) (announced_floor k) (h.numbers.rises k);
            over = spent_last c.last n c.pending new (numbers_of c.made) above refl h.numbers.over;
            gone = spent_last c.last n c.pending new c.withdrawn above refl h.numbers.gone;
          };
          steps = record {
            rising = h.steps.rising;
            used = λ k. below_more (c.last + 1) (n + 1) (steps_by p (items k)) (omega arith) (h.steps.used k);
            unused = h.steps.unused;
          };
          looks = h.looks;
          way = record {
            own = λ k. record { rest = (h.way.own k).rest; is = (h.way.own k).is; waiting = waits_put about k ts n new_token (h.way.own k).rest (λ s w e. nothing_done s w.upto w.at (sym free ∙ ap ts e ∙ w.is)) (h.way.own k).waiting };
            told = λ k. told_put c.made c.made ts n new_token (λ a m. m) (λ a o. absurd (subst (λ (t : Token). IsOnItsWay a t) free o)) (asks_by p (items k)) (h.way.told k);
            tokens = put_all ts n new_token (λ m t. TokenOk about items p (c.pending ++ new ∷ []) m t)
                (refl, h.named, among_last new new c.pending refl, below_more (c.last + 1) n (steps_by p (items (shard_in about new))) (omega arith) (h.steps.used (shard_in about new)))
                (λ m u. announced_token m u (ts m) (h.way.tokens m));
            order = announced_order at;
          };
        }
      where
        not_less : (t : Bool) (qs : List Ask) → floor_of c.last qs ≤ floor_of n (qs ++ cond t (new ∷ []) [])
        not_less true [] = omega arith
        not_less false [] = omega arith
        not_less t (b ∷ qs) = omega arith

        announced_floor : (k : ℕ) → floor_of c.last (asks_on about k c.pending) ≤ floor_of n (asks_on about k (c.pending ++ new ∷ []))
        announced_floor k = subst (λ (l : List Ask). floor_of c.last (asks_on about k c.pending) ≤ floor_of n l) (sym (asks_on_append about k c.pending (new ∷ []))) (not_less (eqb k (shard_in about new)) (asks_on about k c.pending))

  -- the first open call of a shard ends
  module _ (a : Ask) (first : IsFirst a (asks_beside about a c.pending)) where
    abbrev its : ℕ
    its = shard_in about a

    abbrev left : List Ask
    left = behind_on about its c.pending

    queue_there : IsQueue c.last (asks_on about its c.pending)
    queue_there = queue_on about its c.last c.pending h.numbers.queue

    lower : floor_of c.last (asks_on about its c.pending) ≡ a.number
    lower = (floor_first a c.last (asks_on about its c.pending) first queue_there).0

    upper : a.number < floor_of c.last (asks_on about its left)
    upper = subst (λ (l : List Ask). a.number < floor_of c.last l) (sym (left_here about its c.pending)) (floor_first a c.last (asks_on about its c.pending) first queue_there).1

    ended_rises : (k : ℕ) → HaveNumbersBelow (floor_of c.last (asks_on about k left)) (steps_on about k c.made)
    ended_rises k = below_more (floor_of c.last (asks_on about k c.pending)) (floor_of c.last (asks_on about k left)) (steps_on about k c.made) (floor_stays about k its c.last c.pending h.numbers.queue) (h.numbers.rises k)

    own_spent : IsAmong a c.pending → (ns : List ℕ) → AreSpent c.last c.pending ns → AreSpent c.last left (ns ++ a.number ∷ [])
    own_spent among ns spent = spent_more c.last left a.number ns (spent_left about its c.last c.pending ns spent) (let high = (among_floor a c.last c.pending h.numbers.queue among).1 in omega arith) (own_free about its c.last a c.pending h.numbers.queue first)

    ended_token : (m : ℕ) → a.number ≢ m → (u : Token) → TokenOk about items p c.pending m u → TokenOk about items p left m u
    ended_token m d Nothing k = tt
    ended_token m d (Open b f e) k = (k.0, k.1, among_left_on about its b a c.pending first k.2 (λ q. d (q ∙ k.0)), k.3)
    ended_token m d (Done s upto at) k = (k.0, k.1, among_left_on about its s.ask a c.pending first k.2 (λ q. d (q ∙ k.0)), k.3, k.4)

    pub ended_tokens : (m : ℕ) → TokenOk about items p left m (put ts a.number Nothing m)
    ended_tokens = put_all ts a.number Nothing (λ m u. TokenOk about items p left m u) tt (λ m d. ended_token m d (ts m) (h.way.tokens m))

  pub withdrawn_ok : (a : Ask) (e : List Ask) → IsFirst a (asks_beside about a c.pending) → ts a.number ≡ Open a false e
      → AccountOk about items p (record c { withdrawn = c.withdrawn ++ a.number ∷ []; pending = behind_on about (shard_in about a) c.pending }) (put ts a.number Nothing)
  withdrawn_ok a e first is =
      let n = a.number in
      let among : IsAmong a c.pending = (token_ok n (Open a false e) is).2 in
      let apart : (k : ℕ) (s : Step) → IsOfOpenCall about k ts s → n ≢ s.ask.number = λ k s w q. open_done a false e s w.upto w.at (sym is ∙ ap ts q ∙ w.is) in
      let unused : (k : ℕ) → IsUnused n (steps_by p (items k)) = λ k. subst (λ (l : List Step). IsUnused n l) (sym (h.way.own k).is)
      (unused_both n (steps_on about k c.made) (h.way.own k).rest (unused_on about k n c.made (unused_made c.last c.pending c.made a h.numbers.over among)) (waits_unused about k ts n (h.way.own k).rest (apart k) (h.way.own k).waiting)) in record {
        named = h.named;
        numbers = record {
          within = h.numbers.within;
          queue = queue_left about (shard_in about a) c.last c.pending h.numbers.queue;
          few = few_left about (shard_in about a) c.pending h.numbers.few;
          rises = ended_rises a first;
          over = spent_left about (shard_in about a) c.last c.pending (numbers_of c.made) h.numbers.over;
          gone = own_spent a first among c.withdrawn h.numbers.gone;
        };
        steps = record {
          rising = h.steps.rising;
          used = h.steps.used;
          unused = λ k. unused_number n c.withdrawn (steps_by p (items k)) (h.steps.unused k) (unused k);
        };
        looks = h.looks;
        way = record {
          own = λ k. record { rest = (h.way.own k).rest; is = (h.way.own k).is; waiting = waits_put about k ts n Nothing (h.way.own k).rest (apart k) (h.way.own k).waiting };
          told = λ k. told_put c.made c.made ts n Nothing (λ b m. m) (λ b o. let q = (subst (λ (t : Token). IsOnItsWay b t) is o).0 in absurd (cc)) (asks_by p (items k)) (h.way.told k);
          tokens = ended_tokens a first;
          order = order_put about ts n Nothing nothing_open h.way.order;
        };
      }

  -- a call that goes into doubt
  pub doubted_ok : (a : Ask) (f : Bool) (e : List Ask) → ts a.number ≡ Open a f e → AccountOk about items p c (put ts a.number (Open a true e))
  doubted_ok a f e is =
      let n = a.number in
      let t' : Token = Open a true e in record {
        named = h.named;
        numbers = h.numbers;
        steps = h.steps;
        looks = h.looks;
        way = record {
          own = λ k. record { rest = (h.way.own k).rest; is = (h.way.own k).is; waiting = waits_put about k ts n t' (h.way.own k).rest (λ s w q. open_done a f e s w.upto w.at (sym is ∙ ap ts q ∙ w.is)) (h.way.own k).waiting };
          told = λ k. told_put c.made c.made ts n t' (λ b m. m) (λ b o. inr (refl, (subst (λ (t : Token). IsOnItsWay b t) is o).1)) (asks_by p (items k)) (h.way.told k);
          tokens = put_all ts n t' (λ m u. TokenOk about items p c.pending m u) (token_ok n (Open a f e) is) (λ m d. h.way.tokens m);
          order = order_map about ts (put ts n t') (λ m b g d q. ⊎_elim
              (λ (s : n ≡ m). let same = one_open a b true g e d (sym (put_at ts n t' m s) ∙ q) in (f, ap ts (sym s) ∙ is ∙ (λ i. Open (same.0 i) f (same.1 i))))
              (λ (u : n ≢ m). (g, sym (put_else ts n t' m u) ∙ q))
              (cases_eq n m)) h.way.order;
        };
      }

  -- a look at shard k
  pub looked_ok : (k : ℕ) → AccountOk about items p (look_to c k (items k)) ts
  looked_ok k = record {
    named = h.named;
    numbers = h.numbers;
    steps = h.steps;
    looks = record {
      parts = seen_set (λ j x. IsBeginning x (items j)) c.seen k (items k) h.looks.parts (begins_same (items k));
      wide = length-set c.seen k (items k) ∙ h.looks.wide;
      own = seen_set (λ j x. IsBeginning (steps_on about j c.made) (steps_by p x)) c.seen k (items k) h.looks.own (record { rest = (h.way.own k).rest; is = (h.way.own k).is });
    };
    way = h.way;
  }

  his_one : (a : Ask) (t : Token) → TokenOk about items p c.pending a.number t → IsOnItsWay a t → IsAmong a c.pending
  his_one a Nothing k o = absurd o
  his_one a (Open b f e) k o = subst (λ (x : Ask). IsAmong x c.pending) o.1 k.2
  his_one a (Done s upto at) k o = subst (λ (x : Ask). IsAmong x c.pending) o k.2

  his : (asks : List Ask) → AreTold c.made ts asks → AreHis c.made c.pending asks
  his [] t = tt
  his (a ∷ asks) t = (⊎_elim (λ (m : HasStep a c.made). inl m) (λ (o : IsOnItsWay a (ts a.number)). inr (his_one a (ts a.number) (h.way.tokens a.number) o)) t.0, his asks t.1)

-- what a look at shard k tells of the steps of a pass
pub steps_of : (items : ℕ → List Item) (c : Caller) (ts : ℕ → Token) (k : ℕ) → AccountOk c.about items c.pass c ts → HasStepsOf c k (items k)
steps_of items c ts k h = record {
  rest = (h.way.own k).rest;
  is = (h.way.own k).is;
  among = waiting_among c.about items c.pass c ts h k (h.way.own k).rest (h.way.own k).waiting;
  rises = rising_back (steps_on c.about k c.made) (h.way.own k).rest (subst (λ (l : List Step). IsRising l) (h.way.own k).is (h.steps.rising k));
  told = his c.about items c.pass c ts h (asks_by c.pass (items k)) (h.way.told k);
}

-- what others' steps leave of a pass
pub grown_ok : (about : About) (items items' : ℕ → List Item) (p : ℕ) (c : Caller) (ts : ℕ → Token) → ((k : ℕ) → IsBeginning (items k) (items' k)) → ((k : ℕ) → steps_by p (items' k) ≡ steps_by p (items k))
    → ((k : ℕ) → AreTold c.made ts (asks_by p (items' k))) → AccountOk about items p c ts → AccountOk about items' p c ts
grown_ok about items items' p c ts grows same told h = record {
  named = h.named;
  numbers = h.numbers;
  steps = record {
    rising = λ k. subst (λ (l : List Step). IsRising l) (sym (same k)) (h.steps.rising k);
    used = λ k. subst (λ (l : List Step). HaveNumbersBelow (c.last + 1) l) (sym (same k)) (h.steps.used k);
    unused = λ k. subst (λ (l : List Step). AreUnused c.withdrawn l) (sym (same k)) (h.steps.unused k);
  };
  looks = record {
    parts = λ k. begins_trans (h.looks.parts k) (grows k);
    wide = h.looks.wide;
    own = h.looks.own;
  };
  way = record {
    own = λ k. record { rest = (h.way.own k).rest; is = same k ∙ (h.way.own k).is; waiting = (h.way.own k).waiting };
    told = told;
    tokens = λ n. token_grown n (ts n) (h.way.tokens n);
    order = h.way.order;
  };
}
  where
    token_grown : (n : ℕ) (t : Token) → TokenOk about items p c.pending n t → TokenOk about items' p c.pending n t
    token_grown n Nothing k = tt
    token_grown n (Open a f e) k = (k.0, k.1, k.2, subst (λ (l : List Step). HaveNumbersBelow n l) (sym (same (shard_in about a))) k.3)
    token_grown n (Done s upto at) k = (k.0, k.1, k.2, begins_trans k.3 (grows (shard_in about s.ask)), k.4)

-- a call of the pass gets its step on shard k, after those that its ticket names
module _ (about : About) (items : ℕ → List Item) (p : ℕ) (c : Caller) (ts : ℕ → Token) (a : Ask) (f : Bool) (e : List Ask) (r : Reply) (k : ℕ) (at : ℕ × ℕ)
    (here : shard_in about a ≡ k) (is : ts a.number ≡ Open a f e) (had : HaveSteps e (items k)) (h : AccountOk about items p c ts) where
  abbrev s : Step
  s = step_of a r

  abbrev now : List Item
  now = items k ++ Answered s ∷ []

  abbrev items' : ℕ → List Item
  items' = put items k now

  abbrev t' : Token
  t' = Done s now at

  abbrev mine : TokenOk about items p c.pending a.number (Open a f e)
  mine = token_ok about items p c ts h a.number (Open a f e) is

  below : HaveNumbersBelow a.number (steps_by p (items k))
  below = subst (λ (j : ℕ). HaveNumbersBelow a.number (steps_by p (items j))) here mine.3

  longer_steps : steps_by p now ≡ steps_by p (items k) ++ s ∷ []
  longer_steps = steps_mine p (items k) s (sym mine.1)

  -- a call on the shard that has no step yet is a later one
  later : (m : ℕ) (b : Ask) (g : Bool) (d : List Ask) → ts m ≡ Open b g d → a.number ≢ m → shard_in about b ≡ k → a.number < m
  later m b g d q apart there =
      let its : TokenOk about items p c.pending m (Open b g d) = token_ok about items p c ts h m (Open b g d) q in
      let same : b.number ≡ m = its.0 in
      not_less (λ less.
      let named : IsAmong b e = h.way.order b a g f d e (ap ts same ∙ q) is (there ∙ sym here) (omega arith) in
      let stepped : HasStep b (steps_by p (items k)) = subst (λ (o : ℕ). HasStep b (steps_by o (items k))) its.1 (has_step b e (items k) named had) in
      not_made b m (steps_by p (items k)) (subst (λ (j : ℕ). HaveNumbersBelow m (steps_by p (items j))) there its.3) (omega arith) stepped)
    where
      not_less : (m < a.number → ⊥) → a.number < m
      not_less no_way = ⊎_elim (λ (e : a.number ≡ m). absurd (apart e)) (λ (u : a.number ≢ m). not_greater u) (cases_eq a.number m)
        where
          not_greater : a.number ≢ m → a.number < m
          not_greater u = omega arith

  still_told : (j : ℕ) → AreTold c.made (put ts a.number t') (asks_by p (items j))
  still_told j = told_put c.made c.made ts a.number t' (λ b m. m) (λ b o. inr (subst (λ (t : Token). IsOnItsWay b t) is o).1) (asks_by p (items j)) (h.way.told j)

  committed_token : (m : ℕ) → a.number ≢ m → (t : Token) → ts m ≡ t → TokenOk about items p c.pending m t → TokenOk about items' p c.pending m t
  committed_token m u Nothing q o = tt
  committed_token m u (Open b g d) q o = (
    o.0,
    o.1,
    o.2,
    put_all items k now (λ j l. shard_in about b ≡ j → HaveNumbersBelow m (steps_by p l))
        (λ there. subst (λ (l : List Step). HaveNumbersBelow m l) (sym longer_steps)
        (below_last m (steps_by p (items k)) s (subst (λ (j : ℕ). HaveNumbersBelow m (steps_by p (items j))) there o.3) (later m b g d q u there)))
        (λ j v there. subst (λ (i : ℕ). HaveNumbersBelow m (steps_by p (items i))) there o.3)
        (shard_in about b) refl,
  )
  committed_token m u (Done d upto when) q o = (o.0, o.1, o.2, begins_trans o.3 (put_all items k now (λ j l. IsBeginning (items j) l) (record { rest = Answered s ∷ []; is = refl }) (λ j v. begins_same (items j)) (shard_in about d.ask)), o.4)

  committed_own : (j : ℕ) → HasOwn about p c.made (put ts a.number t') j (items' j)
  committed_own = put_all items k now (λ j l. HasOwn about p c.made (put ts a.number t') j l)
      (record {
        rest = (h.way.own k).rest ++ s ∷ [];
        is = longer_steps ∙ ap (λ l. l ++ s ∷ []) (h.way.own k).is ∙ append_assoc (steps_on about k c.made) (h.way.own k).rest (s ∷ []);
        waiting = waits_last about k (put ts a.number t') (h.way.own k).rest s (waits_put about k ts a.number t' (h.way.own k).rest (apart k) (h.way.own k).waiting)
            (record { upto = now; at = at; here = here; is = put_at ts a.number t' a.number refl });
      })
      (λ j n. record { rest = (h.way.own j).rest; is = (h.way.own j).is; waiting = waits_put about j ts a.number t' (h.way.own j).rest (apart j) (h.way.own j).waiting })
    where
      apart : (j : ℕ) (w : Step) → IsOfOpenCall about j ts w → a.number ≢ w.ask.number
      apart j w o q = open_done a f e w o.upto o.at (sym is ∙ ap ts q ∙ o.is)

  pub committed_ok : AccountOk about items' p c (put ts a.number t')
  committed_ok =
      let range = among_floor a c.last c.pending h.numbers.queue mine.2 in
      let low = range.0 in
      let high = range.1 in record {
        named = h.named;
        numbers = h.numbers;
        steps = record {
          rising = put_all items k now (λ j l. IsRising (steps_by p l)) (subst (λ (l : List Step). IsRising l) (sym longer_steps) (rising_last (steps_by p (items k)) s (h.steps.rising k) below)) (λ j n. h.steps.rising j);
          used = put_all items k now (λ j l. HaveNumbersBelow (c.last + 1) (steps_by p l)) (subst (λ (l : List Step). HaveNumbersBelow (c.last + 1) l) (sym longer_steps) (below_last (c.last + 1) (steps_by p (items k)) s (h.steps.used k) (omega arith))) (λ j n. h.steps.used j);
          unused = put_all items k now (λ j l. AreUnused c.withdrawn (steps_by p l))
              (subst (λ (l : List Step). AreUnused c.withdrawn l) (sym longer_steps) (unused_step c.last c.pending c.withdrawn (steps_by p (items k)) s h.numbers.gone mine.2 (h.steps.unused k)))
              (λ j n. h.steps.unused j);
        };
        looks = record {
          parts = put_all items k now (λ j l. IsBeginning (slice_index_or c.seen j []) l) (begins_more (slice_index_or c.seen k []) (items k) (Answered s ∷ []) (h.looks.parts k)) (λ j n. h.looks.parts j);
          wide = h.looks.wide;
          own = h.looks.own;
        };
        way = record {
          own = committed_own;
          told = put_all items k now (λ j l. AreTold c.made (put ts a.number t') (asks_by p l))
              (subst (λ (l : List Ask). AreTold c.made (put ts a.number t') l) (sym (asks_step p (items k) s)) (still_told k))
              (λ j n. still_told j);
          tokens = put_all ts a.number t' (λ m u. TokenOk about items' p c.pending m u)
              (refl, mine.1, mine.2, subst (λ (l : List Item). IsBeginning now l) (sym (put_at items k now (shard_in about a) (sym here))) (begins_same now), (items k, refl))
              (λ m u. committed_token m u (ts m) refl (h.way.tokens m));
          order = order_put about ts a.number t' (λ b g d q. open_done b g d s now at (sym q)) h.way.order;
        };
      }

-- what is seen, where the part of a shard that is there is replaced
pub seen_put : (P : ℕ → List Item → Type 0) (l : List (List Item)) (k : ℕ) (new : List Item) → k < length l → ((j : ℕ) → j ≢ k → P j (slice_index_or l j [])) → P k new → (j : ℕ) → P j (slice_index_or (slice_set l k new) j [])
seen_put P l k new lt f b j = ⊎_elim
    (λ (e : j ≡ k). subst (λ i. P i (slice_index_or (slice_set l k new) i [])) (sym e) (subst (λ x. P k x) (sym (get_or-set_same l k new [] lt)) b))
    (λ (n : j ≢ k). subst (λ x. P j x) (sym (get_or-set_other l k j new [] n)) (f j n))
    (cases_eq j k)

pub both_begin : {A : Type 0} (a b : List A) → IsBeginning a b → IsBeginning b a → a ≡ b
both_begin a b h k =
    let e : b ++ [] ≡ b ++ (k.rest ++ h.rest) = append-nil b ∙ h.is ∙ ap (λ l. l ++ h.rest) k.is ∙ append_assoc b k.rest h.rest in
    k.is ∙ ap (λ l. b ++ l) (front_empty k.rest h.rest (sym (append_cancel_left b [] (k.rest ++ h.rest) e))) ∙ append-nil b
  where
    front_empty : {A : Type 0} (x y : List A) → x ++ y ≡ [] → x ≡ []
    front_empty [] y e = refl
    front_empty (z ∷ x) y e = absurd (let n = ap length e in omega arith)

-- a pass with no open call on a shard has seen all that it made there, and nothing else of it
pub rested_of : (items : ℕ → List Item) (c : Caller) (ts : ℕ → Token) → AccountOk c.about items c.pass c ts → (k : ℕ) → asks_on c.about k c.pending ≡ [] → IsRestedAt c k
rested_of items c ts h k idle =
    let all : steps_by c.pass (items k) ≡ steps_on c.about k c.made = (h.way.own k).is ∙ ap (λ l. steps_on c.about k c.made ++ l) (none_wait (h.way.own k).rest (h.way.own k).waiting) ∙ append-nil (steps_on c.about k c.made) in
    sym (both_begin (steps_on c.about k c.made) (steps_by c.pass (seen_at c k)) (h.looks.own k) (subst (λ l. IsBeginning (steps_by c.pass (seen_at c k)) l) all (steps_begin c.pass (seen_at c k) (items k) (h.looks.parts k))))
  where
    none_wait : (ss : List Step) → AreOfOpenCalls c.about k ts ss → ss ≡ []
    none_wait [] w = refl
    none_wait (s ∷ ss) w = absurd (subst (λ (l : List Ask). IsAmong s.ask l) idle
        (among_on c.about k s.ask c.pending (sym w.0.here) (token_ok c.about items c.pass c ts h s.ask.number (Done s w.0.upto w.0.at) w.0.is).2))

-- open calls are told apart by their numbers
module _ (items : ℕ → List Item) (c : Caller) (ts : ℕ → Token) (a : Ask) (h : AccountOk c.about items c.pass c ts) (among : IsAmong a c.pending) where
  -- the call whose number is that of the first open one of shard k
  told_there : (k : ℕ) → IsFirstNumber a.number (asks_on c.about k c.pending) → (k ≡ shard_in c.about a) × IsFirst a (asks_on c.about k c.pending)
  told_there k f =
      let b = first_numbered a.number (asks_on c.about k c.pending) f in
      let same : b.0 ≡ a = same_number b.0 a c.last c.pending h.numbers.queue (among_all c.about k b.0 c.pending b.2) among b.3 in
      (among_there c.about k b.0 c.pending b.2 ∙ ap (shard_in c.about) same, subst (λ (x : Ask). IsFirst x (asks_on c.about k c.pending)) same b.1)

  first_of : IsFirstSaid c a → IsFirstOf c a
  first_of said =
      let k = shard_in c.about a in
      let first : IsFirstIfAmong a c.pending → IsFirst a c.pending = λ its. first_by_number a c.last c.pending h.numbers.queue among (its among) in
      let here : IsFirst a (asks_beside c.about a c.pending) = ⊎_elim
      (λ (its : IsFirstIfAmong a c.pending). first_there c.about k a c.pending refl (first its))
      (λ (t : (j : ℕ) × IsFirstNumber a.number (asks_on c.about j c.pending)). let told = told_there t.0 t.1 in subst (λ (j : ℕ). IsFirst a (asks_on c.about j c.pending)) told.0 told.1)
      said in
      (here, first, (λ j f. (told_there j f).0), length_left c.about k a c.pending here)

  next_of : IsNextSaid c a → IsFirstOf c a × IsRestedAt c (shard_in c.about a)
  next_of said = ⊎_elim
      (λ (t : IsFirstIfAmong a c.pending × IsRested c). (first_of (inl t.0), t.1 (shard_in c.about a)))
      (λ (t : (k : ℕ) × IsNextOn c a.number k). (first_of (inr (t.0, t.1.0)), subst (IsRestedAt c) (told_there t.0 t.1.0).0 t.1.1))
      said

-- so are answers
pub answers_first : (items : ℕ → List Item) (c : Caller) (ts : ℕ → Token) (s : Step) (upto : List Item) (at : ℕ × ℕ) → AccountOk c.about items c.pass c ts → ts s.ask.number ≡ Done s upto at → IsNextSaid c s.ask → IsFirstOf c s.ask × IsRestedAt c (shard_in c.about s.ask)
answers_first items c ts s upto at h is said = next_of items c ts s.ask h (token_ok c.about items c.pass c ts h s.ask.number (Done s upto at) is).2 said

-- and calls that come back without a step
pub returns_first : (items : ℕ → List Item) (c : Caller) (ts : ℕ → Token) (a : Ask) (f : Bool) (e : List Ask) → AccountOk c.about items c.pass c ts → ts a.number ≡ Open a f e → IsFirstSaid c a → IsFirstOf c a
returns_first items c ts a f e h is said = first_of items c ts a h (token_ok c.about items c.pass c ts h a.number (Open a f e) is).2 said

module _ (items : ℕ → List Item) (c : Caller) (ts : ℕ → Token) (s : Step) (upto : List Item) (at : ℕ × ℕ) (h : AccountOk c.about items c.pass c ts) (is : ts s.ask.number ≡ Done s upto at)
    (first : IsFirst s.ask (asks_beside c.about s.ask c.pending)) where
  abbrev k : ℕ
  k = shard_in c.about s.ask

  abbrev number : ℕ
  number = s.ask.number

  abbrev old : List Item
  old = seen_at c k

  abbrev token : TokenOk c.about items c.pass c.pending number (Done s upto at)
  token = token_ok c.about items c.pass c ts h number (Done s upto at) is

  abbrev floor : floor_of c.last (asks_on c.about k c.pending) ≡ number
  floor = lower c.about items c.pass c ts h s.ask first

  made_below : HaveNumbersBelow number (steps_on c.about k c.made)
  made_below = subst (λ (m : ℕ). HaveNumbersBelow m (steps_on c.about k c.made)) floor (h.numbers.rises k)

  steps_upto : steps_by c.pass upto ≡ steps_by c.pass token.4.0 ++ s ∷ []
  steps_upto = ap (steps_by c.pass) token.4.1 ∙ steps_mine c.pass token.4.0 s (sym token.1)

  abbrev tail : IsBeginning (steps_by c.pass upto) (steps_by c.pass (items k))
  tail = steps_begin c.pass upto (items k) token.3

  all_steps : steps_by c.pass (items k) ≡ steps_by c.pass token.4.0 ++ s ∷ tail.rest
  all_steps = tail.is ∙ ap (λ l. l ++ tail.rest) steps_upto ∙ append_assoc (steps_by c.pass token.4.0) (s ∷ []) tail.rest

  -- before the step stands what the pass made, and no more of it
  split_there : (steps_on c.about k c.made ≡ steps_by c.pass token.4.0) × ((h.way.own k).rest ≡ s ∷ tail.rest)
  split_there = parted number (steps_on c.about k c.made) (h.way.own k).rest (steps_by c.pass token.4.0) s tail.rest refl
      made_below
      (waiting_from c.about items c.pass c ts h k number (h.way.own k).rest (omega (arith, floor)) (h.way.own k).waiting)
      (rising_front (steps_by c.pass token.4.0) s tail.rest (subst (λ (l : List Step). IsRising l) all_steps (h.steps.rising k)))
      (sym (h.way.own k).is ∙ all_steps)

  made_upto : steps_by c.pass upto ≡ steps_on c.about k c.made ++ s ∷ []
  made_upto = steps_upto ∙ ap (λ l. l ++ s ∷ []) (sym split_there.0)

  abbrev rest_above : HaveNumbersAbove number tail.rest
  rest_above = (subst (λ (l : List Step). IsRising l) split_there.1 (rising_back (steps_on c.about k c.made) (h.way.own k).rest (subst (λ (l : List Step). IsRising l) (h.way.own k).is (h.steps.rising k)))).0

  not_back : IsRestedAt c k → IsBeginning upto old → ⊥
  not_back rested b =
      let t = steps_begin c.pass upto old b in
      let e : steps_on c.about k c.made ≡ (steps_by c.pass token.4.0 ++ s ∷ []) ++ t.rest = sym rested ∙ t.is ∙ ap (λ l. l ++ t.rest) steps_upto in
      let less : number < number = below_middle number (steps_by c.pass token.4.0) s t.rest (subst (λ (l : List Step). HaveNumbersBelow number l) e made_below) in
      omega arith

  forth : IsRestedAt c k → IsBeginning old upto
  forth rested = ⊎_elim (λ (b : IsBeginning old upto). b) (λ (b : IsBeginning upto old). absurd (not_back rested b)) (in_line old upto (items k) (h.looks.parts k) token.3)

  between_none : IsRestedAt c k → (front : List Item) → token.4.0 ≡ old ++ front → steps_by c.pass front ≡ []
  between_none rested front e =
      let made = steps_on c.about k c.made in
      let both : made ++ [] ≡ made ++ steps_by c.pass front = append-nil made ∙ split_there.0 ∙ ap (steps_by c.pass) e ∙ steps_append c.pass old front ∙ ap (λ l. l ++ steps_by c.pass front) rested in
      sym (append_cancel_left made [] (steps_by c.pass front) both)

  pub extends_of : IsRestedAt c k → Extends c.pass old s upto
  extends_of rested =
      let b = forth rested in
      ⊎_elim
      (λ (e : b.rest ≡ []). absurd (not_back rested (record { rest = []; is = sym (append-nil upto ∙ b.is ∙ ap (λ l. old ++ l) e ∙ append-nil old) })))
      (λ (t : (front : List Item) × (x : Item) × (b.rest ≡ front ++ x ∷ [])).
      let e : upto ≡ (old ++ t.0) ++ t.1 ∷ [] = b.is ∙ ap (λ l. old ++ l) t.2 ∙ sym (append_assoc old t.0 (t.1 ∷ [])) in
      let both = last_same (old ++ t.0) token.4.0 t.1 (Answered s) (sym e ∙ token.4.1) in
      record { between = t.0; is = e ∙ ap (λ x. (old ++ t.0) ++ x ∷ []) both.1; none = between_none rested t.0 (sym both.0) })
      (last_or_none b.rest)

  -- and then it has seen on the shard just what it made there, this step too
  pub rested_then : k < length c.seen → StaysRested c (collect_at c s upto) k
  rested_then lt =
      let made : steps_by c.pass upto ≡ steps_on c.about k (c.made ++ s ∷ []) = made_upto ∙ sym (on_here c.about k c.made s refl) in (
        ap (steps_by c.pass) (get_or-set_same c.seen k upto [] lt) ∙ made,
        seen_put (λ j x. IsRestedAt c j → steps_by c.pass x ≡ steps_on c.about j (c.made ++ s ∷ [])) c.seen k upto lt
            (λ j d rested. rested ∙ sym (on_else c.about j c.made s d))
            (λ rested. made),
      )

  collected_own : (j : ℕ) → HasOwn c.about c.pass (c.made ++ s ∷ []) (put ts number Nothing) j (items j)
  collected_own j = ⊎_elim
      (λ (e : k ≡ j). subst (λ (i : ℕ). HasOwn c.about c.pass (c.made ++ s ∷ []) (put ts number Nothing) i (items i)) e own_here)
      (λ (d : k ≢ j). own_there d)
      (cases_eq k j)
    where
      own_here : HasOwn c.about c.pass (c.made ++ s ∷ []) (put ts number Nothing) k (items k)
      own_here = record {
        rest = tail.rest;
        is = tail.is ∙ ap (λ l. l ++ tail.rest) (made_upto ∙ sym (on_here c.about k c.made s refl));
        waiting = waits_above c.about k ts number Nothing tail.rest rest_above (subst (λ (l : List Step). AreOfOpenCalls c.about k ts l) split_there.1 (h.way.own k).waiting).1;
      }

      own_there : k ≢ j → HasOwn c.about c.pass (c.made ++ s ∷ []) (put ts number Nothing) j (items j)
      own_there d = record {
        rest = (h.way.own j).rest;
        is = (h.way.own j).is ∙ ap (λ l. l ++ (h.way.own j).rest) (sym (on_else c.about j c.made s (λ e. d (sym e))));
        waiting = waits_put c.about j ts number Nothing (h.way.own j).rest
            (λ w o q. d (ap (λ (x : Step). shard_in c.about x.ask) (one_step s w upto o.upto at o.at (sym is ∙ ap ts q ∙ o.is)) ∙ o.here))
            (h.way.own j).waiting;
      }

  pub collected_ok : k < length c.seen → AccountOk c.about items c.pass (collect_at c s upto) (put ts number Nothing)
  collected_ok lt =
      let high : number < floor_of c.last (asks_on c.about k (behind_on c.about k c.pending)) = upper c.about items c.pass c ts h s.ask first in record {
        named = refl;
        numbers = record {
          within = h.numbers.within;
          queue = queue_left c.about k c.last c.pending h.numbers.queue;
          few = few_left c.about k c.pending h.numbers.few;
          rises = λ j. let before = ended_rises c.about items c.pass c ts h s.ask first j in ⊎_elim
              (λ (e : j ≡ k). subst (λ (i : ℕ). HaveNumbersBelow (floor_of c.last (asks_on c.about i (behind_on c.about k c.pending))) (steps_on c.about i (c.made ++ s ∷ []))) (sym e)
              (subst (λ (l : List Step). HaveNumbersBelow (floor_of c.last (asks_on c.about k (behind_on c.about k c.pending))) l) (sym (on_here c.about k c.made s refl))
              (below_last (floor_of c.last (asks_on c.about k (behind_on c.about k c.pending))) (steps_on c.about k c.made) s (ended_rises c.about items c.pass c ts h s.ask first k) high)))
              (λ (d : j ≢ k). subst (λ (l : List Step). HaveNumbersBelow (floor_of c.last (asks_on c.about j (behind_on c.about k c.pending))) l) (sym (on_else c.about j c.made s d)) before)
              (cases_eq j k);
          over = subst (λ (l : List ℕ). AreSpent c.last (behind_on c.about k c.pending) l) (sym (numbers_last c.made s)) (own_spent c.about items c.pass c ts h s.ask first token.2 (numbers_of c.made) h.numbers.over);
          gone = spent_left c.about k c.last c.pending c.withdrawn h.numbers.gone;
        };
        steps = h.steps;
        looks = record {
          parts = seen_put (λ j x. IsBeginning x (items j)) c.seen k upto lt (λ j d. h.looks.parts j) token.3;
          wide = length-set c.seen k upto ∙ h.looks.wide;
          own = seen_put (λ j x. IsBeginning (steps_on c.about j (c.made ++ s ∷ [])) (steps_by c.pass x)) c.seen k upto lt
              (λ j d. subst (λ l. IsBeginning l (steps_by c.pass (seen_at c j))) (sym (on_else c.about j c.made s d)) (h.looks.own j))
              (subst (λ l. IsBeginning l (steps_by c.pass upto)) (made_upto ∙ sym (on_here c.about k c.made s refl)) (begins_same (steps_by c.pass upto)));
        };
        way = record {
          own = collected_own;
          told = λ j. told_put c.made (c.made ++ s ∷ []) ts number Nothing (λ b m. made_left b c.made (s ∷ []) m) (λ b o. inl (made_last b c.made s (subst (λ (t : Token). IsOnItsWay b t) is o))) (asks_by c.pass (items j)) (h.way.told j);
          tokens = ended_tokens c.about items c.pass c ts h s.ask first;
          order = order_put c.about ts number Nothing nothing_open h.way.order;
        };
      }

-- a pass that has seen and made nothing, where there is nothing
pub newcomer_ok : (about : About) (p : ℕ) → AccountOk about (λ _. []) p (newcomer about p) (λ _. Nothing)
newcomer_ok about p = record {
  named = refl;
  numbers = record { within = omega arith; queue = tt; few = omega arith; rises = λ k. tt; over = tt; gone = tt };
  steps = record { rising = λ k. tt; used = λ k. tt; unused = λ k. tt };
  looks = record {
    parts = λ k. record { rest = []; is = sym (ap (λ l. l ++ []) (replicate_at {A = List Item} about.shards k [])) };
    wide = length-replicate {A = List Item} about.shards [];
    own = λ k. record { rest = []; is = ap (steps_by p) (replicate_at {A = List Item} about.shards k []) };
  };
  way = record {
    own = λ k. record { rest = []; is = refl; waiting = tt };
    told = λ k. tt;
    tokens = λ n. tt;
    order = λ a b f g d e x y here less. absurd (nothing_open a f d x);
  };
}
