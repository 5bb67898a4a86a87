-- Laws of histories, and of the steps that a pass has in them.
use Rattle.std.proofs.Common.{◌≡◌, ◌≢◌, ◌⊎◌, ℕ, zero, suc, ◌+◌, ◌*◌, ◌<◌, ◌≤◌, List, [], ◌∷◌, ◌++◌, length, take, Bool, true, false, cond, eqb, not, ◌&&◌, ◌||◌, refl, sym, ap, ◌∙◌, subst, inl, inr, ⊎_elim, append_assoc, append-nil, eq-eqb, eqb-true, ne_eqb, arith, length-append, Some, None, slice_get, nat_lt, IsTrue, lt-ltb}
use Rattle.std.specs.List.{list_any, list_all}
use Rattle.history.proofs.Common.{Ask, Step, Item, Answered, Failed, About, MayFollow, is_marked, is_new, is_step_of, IsBeginning, IsLegalAt, terms_of, base_at, history_of, shard_in, steps_by, steps_on, of_pass, asks_by, IsByPasses, HaveNumbersBelow, HaveNumbersAbove, IsRising, IsUnused, AreUnused, HasStep, HaveSteps, IsAmong, IsFirst, IsFirstNumber, behind_first, behind_on, numbers_of, IsFree, AreSpent, asks_on, doubt_or, doubt_of, bound, number_of, floor_of, IsQueue, steps_in_all, cases_eq, cond_both}
use Rattle.history.proofs.Lists.{head_or, tail_of}

pub cond_append : {A : Type 0} (b : Bool) (x : A) (xs ys : List A) → cond b (x ∷ (xs ++ ys)) (xs ++ ys) ≡ cond b (x ∷ xs) xs ++ ys
cond_append true x xs ys = refl
cond_append false x xs ys = refl

pub steps_append : (p : ℕ) (xs ys : List Item) → steps_by p (xs ++ ys) ≡ steps_by p xs ++ steps_by p ys
steps_append p [] ys = refl
steps_append p (Answered s ∷ xs) ys = ap (λ l. cond (eqb p s.ask.pass) (s ∷ l) l) (steps_append p xs ys) ∙ cond_append (eqb p s.ask.pass) s (steps_by p xs) (steps_by p ys)
steps_append p (Failed asks ∷ xs) ys = steps_append p xs ys

pub asks_append : (p : ℕ) (xs ys : List Item) → asks_by p (xs ++ ys) ≡ asks_by p xs ++ asks_by p ys
asks_append p [] ys = refl
asks_append p (Answered s ∷ xs) ys = asks_append p xs ys
asks_append p (Failed asks ∷ xs) ys = ap (λ l. of_pass p asks ++ l) (asks_append p xs ys) ∙ sym (append_assoc (of_pass p asks) (asks_by p xs) (asks_by p ys))

-- a step more is no call in doubt more
pub asks_step : (p : ℕ) (xs : List Item) (s : Step) → asks_by p (xs ++ Answered s ∷ []) ≡ asks_by p xs
asks_step p xs s = asks_append p xs (Answered s ∷ []) ∙ append-nil (asks_by p xs)

-- a mark more is no step more
pub steps_mark : (p : ℕ) (xs : List Item) (asks : List Ask) → steps_by p (xs ++ Failed asks ∷ []) ≡ steps_by p xs
steps_mark p xs asks = steps_append p xs (Failed asks ∷ []) ∙ append-nil (steps_by p xs)

pub steps_mine : (p : ℕ) (xs : List Item) (s : Step) → p ≡ s.ask.pass → steps_by p (xs ++ Answered s ∷ []) ≡ steps_by p xs ++ s ∷ []
steps_mine p xs s e = steps_append p xs (Answered s ∷ []) ∙ ap (λ b. steps_by p xs ++ cond b (s ∷ []) []) (eq-eqb p s.ask.pass e)

pub steps_else : (p : ℕ) (xs : List Item) (s : Step) → p ≢ s.ask.pass → steps_by p (xs ++ Answered s ∷ []) ≡ steps_by p xs
steps_else p xs s n = steps_append p xs (Answered s ∷ []) ∙ ap (λ b. steps_by p xs ++ cond b (s ∷ []) []) (ne_eqb p s.ask.pass n) ∙ append-nil (steps_by p xs)

-- where one history begins the other, so do the steps of a pass
pub steps_begin : (p : ℕ) (a b : List Item) → IsBeginning a b → IsBeginning (steps_by p a) (steps_by p b)
steps_begin p a b h = record { rest = steps_by p h.rest; is = ap (steps_by p) h.is ∙ steps_append p a h.rest }

module _ (about : About) (k : ℕ) where
  pub on_append : (xs ys : List Step) → steps_on about k (xs ++ ys) ≡ steps_on about k xs ++ steps_on about k ys
  on_append [] ys = refl
  on_append (s ∷ xs) ys = ap (λ l. cond (eqb k (shard_in about s.ask)) (s ∷ l) l) (on_append xs ys) ∙ cond_append (eqb k (shard_in about s.ask)) s (steps_on about k xs) (steps_on about k ys)

  pub on_here : (xs : List Step) (s : Step) → k ≡ shard_in about s.ask → steps_on about k (xs ++ s ∷ []) ≡ steps_on about k xs ++ s ∷ []
  on_here xs s e = on_append xs (s ∷ []) ∙ ap (λ b. steps_on about k xs ++ cond b (s ∷ []) []) (eq-eqb k (shard_in about s.ask) e)

  pub on_else : (xs : List Step) (s : Step) → k ≢ shard_in about s.ask → steps_on about k (xs ++ s ∷ []) ≡ steps_on about k xs
  on_else xs s n = on_append xs (s ∷ []) ∙ ap (λ b. steps_on about k xs ++ cond b (s ∷ []) []) (ne_eqb k (shard_in about s.ask) n) ∙ append-nil (steps_on about k xs)

  pub below_on : (n : ℕ) (xs : List Step) → HaveNumbersBelow n xs → HaveNumbersBelow n (steps_on about k xs)
  below_on n [] h = tt
  below_on n (s ∷ xs) h = cond_both (eqb k (shard_in about s.ask)) (s ∷ steps_on about k xs) (steps_on about k xs) (HaveNumbersBelow n) (λ e. (h.0, below_on n xs h.1)) (λ e. below_on n xs h.1)

pub below_more : (n m : ℕ) (xs : List Step) → n ≤ m → HaveNumbersBelow n xs → HaveNumbersBelow m xs
below_more n m [] le h = tt
below_more n m (s ∷ xs) le h = ((let l = h.0 in omega arith), below_more n m xs le h.1)

pub below_last : (n : ℕ) (xs : List Step) (s : Step) → HaveNumbersBelow n xs → s.ask.number < n → HaveNumbersBelow n (xs ++ s ∷ [])
below_last n [] s h l = (l, tt)
below_last n (x ∷ xs) s h l = (h.0, below_last n xs s h.1 l)

-- a step in the middle of steps below n
pub below_middle : (n : ℕ) (xs : List Step) (s : Step) (rest : List Step) → HaveNumbersBelow n ((xs ++ s ∷ []) ++ rest) → s.ask.number < n
below_middle n [] s rest h = h.0
below_middle n (x ∷ xs) s rest h = below_middle n xs s rest h.1

pub above_last : (n : ℕ) (xs : List Step) (s : Step) → HaveNumbersAbove n xs → n < s.ask.number → HaveNumbersAbove n (xs ++ s ∷ [])
above_last n [] s h l = (l, tt)
above_last n (x ∷ xs) s h l = (h.0, above_last n xs s h.1 l)

-- one more step, of a number above all these
pub rising_last : (xs : List Step) (s : Step) → IsRising xs → HaveNumbersBelow s.ask.number xs → IsRising (xs ++ s ∷ [])
rising_last [] s h b = (tt, tt)
rising_last (x ∷ xs) s h b = (above_last x.ask.number xs s h.0 b.0, rising_last xs s h.1 b.1)

pub rising_back : (xs ys : List Step) → IsRising (xs ++ ys) → IsRising ys
rising_back [] ys h = h
rising_back (x ∷ xs) ys h = rising_back xs ys h.1

above_one : (n : ℕ) (xs : List Step) (s : Step) (ys : List Step) → HaveNumbersAbove n (xs ++ s ∷ ys) → n < s.ask.number
above_one n [] s ys h = h.0
above_one n (x ∷ xs) s ys h = above_one n xs s ys h.1

pub rising_front : (xs : List Step) (s : Step) (ys : List Step) → IsRising (xs ++ s ∷ ys) → HaveNumbersBelow s.ask.number xs
rising_front [] s ys h = tt
rising_front (x ∷ xs) s ys h = (above_one x.ask.number xs s ys h.0, rising_front xs s ys h.1)

count_above : (m n : ℕ) (xs : List Step) → m < n → HaveNumbersAbove m xs → IsRising xs → HaveNumbersBelow n xs → length xs + m < n
count_above m n [] l a r b = omega arith
count_above m n (x ∷ xs) l a r b =
    let above = a.0 in
    let more : length xs + x.ask.number < n = count_above x.ask.number n xs b.0 r.0 r.1 b.1 in
    omega arith

-- rising numbers below n are at most n
pub rising_count : (n : ℕ) (xs : List Step) → IsRising xs → HaveNumbersBelow n xs → length xs ≤ n
rising_count n [] r b = omega arith
rising_count n (x ∷ xs) r b = let more : length xs + x.ask.number < n = count_above x.ask.number n xs b.0 r.0 r.1 b.1 in omega arith

-- the numbers of these steps are n or above
abbrev pub AreFrom : ℕ → List Step → Type 0
AreFrom n [] = Unit {0}
AreFrom n (s ∷ steps) = (n ≤ s.ask.number) × AreFrom n steps

-- steps below n and then steps from n on are parted where the first of number n stands
pub parted : (n : ℕ) (xs ws ys : List Step) (s : Step) (more : List Step) → s.ask.number ≡ n → HaveNumbersBelow n xs → AreFrom n ws → HaveNumbersBelow n ys → xs ++ ws ≡ ys ++ s ∷ more → (xs ≡ ys) × (ws ≡ s ∷ more)
unfolding head_or tail_of
parted n [] ws [] s more is b f c e = (refl, e)
parted n [] ws (y ∷ ys) s more is b f c e = absurd (let from = (subst (λ l. AreFrom n l) e f).0 in let below = c.0 in omega arith)
parted n (x ∷ xs) ws [] s more is b f c e = absurd (let same : x.ask.number ≡ s.ask.number = ap (λ t. (head_or s t).ask.number) e in let below = b.0 in omega arith)
parted n (x ∷ xs) ws (y ∷ ys) s more is b f c e =
    let first : x ≡ y = ap (head_or x) e in
    let t = parted n xs ws ys s more is b.1 f c.1 (ap tail_of e) in
    ((λ i. first i ∷ t.0 i), t.1)

pub unused_below : (n : ℕ) (xs : List Step) → HaveNumbersBelow n xs → IsUnused n xs
unused_below n [] h = tt
unused_below n (s ∷ xs) h = ((λ e. let l = h.0 in omega arith), unused_below n xs h.1)

pub unused_number : (n : ℕ) (ns : List ℕ) (xs : List Step) → AreUnused ns xs → IsUnused n xs → AreUnused (ns ++ n ∷ []) xs
unused_number n [] xs h u = (u, tt)
unused_number n (m ∷ ns) xs h u = (h.0, unused_number n ns xs h.1 u)

-- an open call has no number that is spent
not_free : (n : ℕ) (a : Ask) (qs : List Ask) → IsAmong a qs → IsFree n qs → a.number ≢ n
not_free n a [] m f = absurd m
not_free n a (b ∷ qs) m f = ⊎_elim (λ (e : b ≡ a). λ q. f.0 (ap (λ (c : Ask). c.number) e ∙ q)) (λ (t : IsAmong a qs). not_free n a qs t f.1) m

one_unused : (n : ℕ) (xs : List Step) (s : Step) → IsUnused n xs → s.ask.number ≢ n → IsUnused n (xs ++ s ∷ [])
one_unused n [] s h e = (e, tt)
one_unused n (x ∷ xs) s h e = (h.0, one_unused n xs s h.1 e)

-- one more step, of an open call
pub unused_step : (last : ℕ) (qs : List Ask) (ns : List ℕ) (xs : List Step) (s : Step) → AreSpent last qs ns → IsAmong s.ask qs → AreUnused ns xs → AreUnused ns (xs ++ s ∷ [])
unused_step last qs [] xs s u m h = tt
unused_step last qs (n ∷ ns) xs s u m h = (one_unused n xs s h.0 (not_free n s.ask qs m u.1), unused_step last qs ns xs s u.2 m h.1)

-- steps that have none of the open calls' numbers
pub unused_made : (last : ℕ) (qs : List Ask) (xs : List Step) (a : Ask) → AreSpent last qs (numbers_of xs) → IsAmong a qs → IsUnused a.number xs
unused_made last qs [] a u m = tt
unused_made last qs (s ∷ xs) a u m = ((λ e. not_free s.ask.number a qs m u.1 (sym e)), unused_made last qs xs a u.2 m)

pub unused_on : (about : About) (k n : ℕ) (xs : List Step) → IsUnused n xs → IsUnused n (steps_on about k xs)
unused_on about k n [] h = tt
unused_on about k n (s ∷ xs) h = cond_both (eqb k (shard_in about s.ask)) (s ∷ steps_on about k xs) (steps_on about k xs) (IsUnused n) (λ e. (h.0, unused_on about k n xs h.1)) (λ e. unused_on about k n xs h.1)

pub numbers_last : (xs : List Step) (s : Step) → numbers_of (xs ++ s ∷ []) ≡ numbers_of xs ++ s.ask.number ∷ []
numbers_last [] s = refl
numbers_last (x ∷ xs) s = ap (λ (l : List ℕ). x.ask.number ∷ l) (numbers_last xs s)

pub unused_both : (n : ℕ) (xs ys : List Step) → IsUnused n xs → IsUnused n ys → IsUnused n (xs ++ ys)
unused_both n [] ys h g = g
unused_both n (x ∷ xs) ys h g = (h.0, unused_both n xs ys h.1 g)

pub made_left : (a : Ask) (xs ys : List Step) → HasStep a xs → HasStep a (xs ++ ys)
made_left a [] ys h = absurd h
made_left a (s ∷ xs) ys h = ⊎_elim (λ (e : s.ask ≡ a). inl e) (λ (t : HasStep a xs). inr (made_left a xs ys t)) h

pub made_last : (a : Ask) (xs : List Step) (s : Step) → s.ask ≡ a → HasStep a (xs ++ s ∷ [])
made_last a [] s e = inl e
made_last a (x ∷ xs) s e = inr (made_last a xs s e)

-- a call above all these steps has none of them
pub not_made : (a : Ask) (n : ℕ) (xs : List Step) → HaveNumbersBelow n xs → n ≤ a.number → HasStep a xs → ⊥
not_made a n [] b l m = m
not_made a n (s ∷ xs) b l m = ⊎_elim
    (λ (e : s.ask ≡ a). let same : s.ask.number ≡ a.number = ap (λ (c : Ask). c.number) e in let below = b.0 in omega arith)
    (λ (t : HasStep a xs). not_made a n xs b.1 l t)
    m

-- the call of the last step has a step
pub made_now : (s : Step) (items : List Item) → HasStep s.ask (steps_by s.ask.pass (items ++ Answered s ∷ []))
made_now s items = subst (λ l. HasStep s.ask l) (sym (steps_mine s.ask.pass items s refl)) (made_last s.ask (steps_by s.ask.pass items) s refl)

-- calls that have steps have them in a longer history too
pub have_more : (asks : List Ask) (items xs : List Item) → HaveSteps asks items → HaveSteps asks (items ++ xs)
have_more [] items xs h = tt
have_more (a ∷ asks) items xs h = (subst (λ l. HasStep a l) (sym (steps_append a.pass items xs)) (made_left a (steps_by a.pass items) (steps_by a.pass xs) h.0), have_more asks items xs h.1)

pub have_last : (asks : List Ask) (a : Ask) (items : List Item) → HaveSteps asks items → HasStep a (steps_by a.pass items) → HaveSteps (asks ++ a ∷ []) items
have_last [] a items h m = (m, tt)
have_last (b ∷ asks) a items h m = (h.0, have_last asks a items h.1 m)

pub has_step : (b : Ask) (asks : List Ask) (items : List Item) → IsAmong b asks → HaveSteps asks items → HasStep b (steps_by b.pass items)
has_step b [] items m h = absurd m
has_step b (a ∷ asks) items m h = ⊎_elim
    (λ (e : a ≡ b). subst (λ (c : Ask). HasStep c (steps_by c.pass items)) e h.0)
    (λ (t : IsAmong b asks). has_step b asks items t h.1)
    m

-- the open calls of a pass
pub among_left : (a : Ask) (xs ys : List Ask) → IsAmong a xs → IsAmong a (xs ++ ys)
among_left a [] ys m = absurd m
among_left a (b ∷ xs) ys m = ⊎_elim (λ (e : b ≡ a). inl e) (λ (t : IsAmong a xs). inr (among_left a xs ys t)) m

pub among_last : (a b : Ask) (xs : List Ask) → b ≡ a → IsAmong a (xs ++ b ∷ [])
among_last a b [] e = inl e
among_last a b (x ∷ xs) e = inr (among_last a b xs e)

among_cond : (a b : Ask) (t : Bool) (xs : List Ask) → (b ≡ a → t ≡ true) → (b ≡ a) ⊎ IsAmong a xs → IsAmong a (cond t (b ∷ xs) xs)
among_cond a b true xs f m = m
among_cond a b false xs f m = ⊎_elim (λ (e : b ≡ a). let g = f e in absurd (cc)) (λ (t : IsAmong a xs). t) m

pub among_on : (about : About) (k : ℕ) (a : Ask) (xs : List Ask) → k ≡ shard_in about a → IsAmong a xs → IsAmong a (asks_on about k xs)
among_on about k a [] here m = absurd m
among_on about k a (b ∷ xs) here m = among_cond a b (eqb k (shard_in about b)) (asks_on about k xs)
    (λ e. eq-eqb k (shard_in about b) (here ∙ ap (shard_in about) (sym e)))
    (⊎_elim (λ (e : b ≡ a). inl e) (λ (t : IsAmong a xs). inr (among_on about k a xs here t)) m)

floor_most : (last : ℕ) (qs : List Ask) → IsQueue last qs → floor_of last qs ≤ last + 1
floor_most last [] q = omega arith
floor_most last (a ∷ qs) q = let more = floor_most last qs q.1 in let below = q.0 in omega arith

pub among_floor : (b : Ask) (last : ℕ) (qs : List Ask) → IsQueue last qs → IsAmong b qs → (floor_of last qs ≤ b.number) × (b.number ≤ last)
among_floor b last [] q m = absurd m
among_floor b last (a ∷ qs) q m = ⊎_elim
    (λ (e : a ≡ b).
    let same : a.number ≡ b.number = ap (λ (c : Ask). c.number) e in
    let below = q.0 in
    let most = floor_most last qs q.1 in
    ((omega arith), (omega arith)))
    (λ (t : IsAmong b qs).
    let more = among_floor b last qs q.1 t in
    let below = q.0 in
    let low = more.0 in
    ((omega arith), more.1))
    m

pub queue_last : (last n : ℕ) (qs : List Ask) (a : Ask) → IsQueue last qs → last < n → a.number ≡ n → IsQueue n (qs ++ a ∷ [])
queue_last last n [] a q l e = ((omega arith), tt)
queue_last last n (b ∷ []) a q l e = ((let below = q.0 in omega arith), ((omega arith), tt))
queue_last last n (b ∷ (c ∷ qs)) a q l e = (q.0, queue_last last n (c ∷ qs) a q.1 l e)

pub queue_behind : (last : ℕ) (qs : List Ask) → IsQueue last qs → IsQueue last (behind_first qs)
queue_behind last [] q = tt
queue_behind last (a ∷ qs) q = q.1

pub floor_first : (a : Ask) (last : ℕ) (qs : List Ask) → IsFirst a qs → IsQueue last qs → (floor_of last qs ≡ a.number) × (a.number < floor_of last (behind_first qs))
floor_first a last [] f q = absurd f
floor_first a last (b ∷ qs) f q = let same : b.number ≡ a.number = ap (λ (c : Ask). c.number) f in (same, (let below = q.0 in omega arith))

pub among_behind : (b a : Ask) (qs : List Ask) → IsFirst a qs → IsAmong b qs → a.number ≢ b.number → IsAmong b (behind_first qs)
among_behind b a [] f m n = absurd f
among_behind b a (c ∷ qs) f m n = ⊎_elim (λ (e : c ≡ b). absurd (n (ap (λ (d : Ask). d.number) (sym f ∙ e)))) (λ (t : IsAmong b qs). t) m

-- the open call that has the first number is the first
pub first_by_number : (a : Ask) (last : ℕ) (qs : List Ask) → IsQueue last qs → IsAmong a qs → IsFirstNumber a.number qs → IsFirst a qs
first_by_number a last [] q m f = absurd f
first_by_number a last (b ∷ qs) q m f = ⊎_elim
    (λ (e : b ≡ a). e)
    (λ (t : IsAmong a qs). absurd (let low = (among_floor a last qs q.1 t).0 in let below = q.0 in omega arith))
    m

-- open calls are told apart by their numbers
pub same_number : (a b : Ask) (last : ℕ) (qs : List Ask) → IsQueue last qs → IsAmong a qs → IsAmong b qs → a.number ≡ b.number → a ≡ b
same_number a b last [] q m n e = absurd m
same_number a b last (c ∷ qs) q m n e = ⊎_elim
    (λ (x : c ≡ a). ⊎_elim
    (λ (y : c ≡ b). sym x ∙ y)
    (λ (t : IsAmong b qs). absurd (let low = (among_floor b last qs q.1 t).0 in let below = q.0 in let here : c.number ≡ a.number = ap (λ (d : Ask). d.number) x in omega arith))
    n)
    (λ (t : IsAmong a qs). ⊎_elim
    (λ (y : c ≡ b). absurd (let low = (among_floor a last qs q.1 t).0 in let below = q.0 in let here : c.number ≡ b.number = ap (λ (d : Ask). d.number) y in omega arith))
    (λ (u : IsAmong b qs). same_number a b last qs q.1 t u e)
    n)
    m

-- the first of these calls, where its number is known
pub first_numbered : (n : ℕ) (qs : List Ask) → IsFirstNumber n qs → (b : Ask) × IsFirst b qs × IsAmong b qs × (b.number ≡ n)
first_numbered n [] f = absurd f
first_numbered n (b ∷ qs) f = (b, refl, inl refl, f)

pub number_last : (n : ℕ) (qs : List Ask) (a : Ask) → number_of n (qs ++ a ∷ []) ≡ n
number_last n [] a = refl
number_last n (b ∷ qs) a = refl

pub length_behind : (n : ℕ) (qs : List Ask) → IsFirstNumber n qs → length (behind_first qs) + 1 ≡ length qs
length_behind n [] f = absurd f
length_behind n (a ∷ qs) f = omega arith

pub few_behind : (qs : List Ask) → length qs ≤ 64 → length (behind_first qs) ≤ 64
few_behind [] l = l
few_behind (a ∷ qs) l = omega arith

-- The first open call of a shard, and those that are left.
module _ (about : About) (k : ℕ) where
  pub asks_on_append : (xs ys : List Ask) → asks_on about k (xs ++ ys) ≡ asks_on about k xs ++ asks_on about k ys
  asks_on_append [] ys = refl
  asks_on_append (a ∷ xs) ys = ap (λ l. cond (eqb k (shard_in about a)) (a ∷ l) l) (asks_on_append xs ys) ∙ cond_append (eqb k (shard_in about a)) a (asks_on about k xs) (asks_on about k ys)

  floor_on : (last : ℕ) (qs : List Ask) → IsQueue last qs → floor_of last qs ≤ floor_of last (asks_on about k qs)
  floor_on last [] q = omega arith
  floor_on last (a ∷ qs) q =
      let more = floor_on last qs q.1 in
      let below = q.0 in
      cond_both (eqb k (shard_in about a)) (a ∷ asks_on about k qs) (asks_on about k qs) (λ (l : List Ask). a.number ≤ floor_of last l) (λ e. omega arith) (λ e. omega arith)

  pub queue_on : (last : ℕ) (qs : List Ask) → IsQueue last qs → IsQueue last (asks_on about k qs)
  queue_on last [] q = tt
  queue_on last (a ∷ qs) q =
      let more = floor_on last qs q.1 in
      let below = q.0 in
      cond_both (eqb k (shard_in about a)) (a ∷ asks_on about k qs) (asks_on about k qs) (IsQueue last) (λ e. ((omega arith), queue_on last qs q.1)) (λ e. queue_on last qs q.1)

  floor_left : (last : ℕ) (qs : List Ask) → IsQueue last qs → floor_of last qs ≤ floor_of last (behind_on about k qs)
  floor_left last [] q = omega arith
  floor_left last (a ∷ qs) q =
      let below = q.0 in
      cond_both (eqb k (shard_in about a)) qs (a ∷ behind_on about k qs) (λ (l : List Ask). a.number ≤ floor_of last l) (λ e. omega arith) (λ e. omega arith)

  pub queue_left : (last : ℕ) (qs : List Ask) → IsQueue last qs → IsQueue last (behind_on about k qs)
  queue_left last [] q = tt
  queue_left last (a ∷ qs) q =
      let more = floor_left last qs q.1 in
      let below = q.0 in
      cond_both (eqb k (shard_in about a)) qs (a ∷ behind_on about k qs) (IsQueue last) (λ e. q.1) (λ e. ((omega arith), queue_left last qs q.1))

  shorter : (qs : List Ask) → length (behind_on about k qs) ≤ length qs
  shorter [] = omega arith
  shorter (a ∷ qs) =
      let less = shorter qs in
      cond_both (eqb k (shard_in about a)) qs (a ∷ behind_on about k qs) (λ (l : List Ask). length l ≤ length (a ∷ qs)) (λ e. omega arith) (λ e. omega arith)

  pub few_left : (qs : List Ask) → length qs ≤ 64 → length (behind_on about k qs) ≤ 64
  few_left qs l = let less = shorter qs in omega arith

  -- on the shard those behind the first are left
  pub left_here : (qs : List Ask) → asks_on about k (behind_on about k qs) ≡ behind_first (asks_on about k qs)
  left_here [] = refl
  left_here (a ∷ qs) = by (left_here qs) (eqb k (shard_in about a)) refl
    where
      by : asks_on about k (behind_on about k qs) ≡ behind_first (asks_on about k qs) → (b : Bool) → eqb k (shard_in about a) ≡ b → asks_on about k (cond b qs (a ∷ behind_on about k qs)) ≡ behind_first (cond b (a ∷ asks_on about k qs) (asks_on about k qs))
      by more true e = refl
      by more false e = ap (λ (b : Bool). cond b (a ∷ asks_on about k (behind_on about k qs)) (asks_on about k (behind_on about k qs))) e ∙ more

  -- and on another shard all
  pub left_there : (j : ℕ) → j ≢ k → (qs : List Ask) → asks_on about j (behind_on about k qs) ≡ asks_on about j qs
  left_there j n [] = refl
  left_there j n (a ∷ qs) = by (left_there j n qs) (eqb k (shard_in about a)) refl
    where
      by : asks_on about j (behind_on about k qs) ≡ asks_on about j qs → (b : Bool) → eqb k (shard_in about a) ≡ b → asks_on about j (cond b qs (a ∷ behind_on about k qs)) ≡ cond (eqb j (shard_in about a)) (a ∷ asks_on about j qs) (asks_on about j qs)
      by more true e = sym (ap (λ (b : Bool). cond b (a ∷ asks_on about j qs) (asks_on about j qs)) (ne_eqb j (shard_in about a) (λ q. n (q ∙ sym (eqb-true k (shard_in about a) e)))))
      by more false e = ap (λ (l : List Ask). cond (eqb j (shard_in about a)) (a ∷ l) l) more

  pub among_left_on : (b a : Ask) (qs : List Ask) → IsFirst a (asks_on about k qs) → IsAmong b qs → a.number ≢ b.number → IsAmong b (behind_on about k qs)
  among_left_on b a [] f m n = absurd m
  among_left_on b a (c ∷ qs) f m n = by (λ f t. among_left_on b a qs f t n) (eqb k (shard_in about c)) f
    where
      by : (IsFirst a (asks_on about k qs) → IsAmong b qs → IsAmong b (behind_on about k qs)) → (t : Bool) → IsFirst a (cond t (c ∷ asks_on about k qs) (asks_on about k qs)) → IsAmong b (cond t qs (c ∷ behind_on about k qs))
      by more true f = ⊎_elim (λ (e : c ≡ b). absurd (n (ap (λ (d : Ask). d.number) (sym f ∙ e)))) (λ (t : IsAmong b qs). t) m
      by more false f = ⊎_elim (λ (e : c ≡ b). inl e) (λ (t : IsAmong b qs). inr (more f t)) m

  pub among_all : (b : Ask) (qs : List Ask) → IsAmong b (asks_on about k qs) → IsAmong b qs
  among_all b [] m = absurd m
  among_all b (a ∷ qs) m = by (among_all b qs) (eqb k (shard_in about a)) m
    where
      by : (IsAmong b (asks_on about k qs) → IsAmong b qs) → (t : Bool) → IsAmong b (cond t (a ∷ asks_on about k qs) (asks_on about k qs)) → (a ≡ b) ⊎ IsAmong b qs
      by more true m = ⊎_elim (λ (e : a ≡ b). inl e) (λ (t : IsAmong b (asks_on about k qs)). inr (more t)) m
      by more false m = inr (more m)

  pub length_left : (a : Ask) (qs : List Ask) → IsFirst a (asks_on about k qs) → length (behind_on about k qs) + 1 ≡ length qs
  length_left a [] f = absurd f
  length_left a (c ∷ qs) f = by (length_left a qs) (eqb k (shard_in about c)) f
    where
      by : (IsFirst a (asks_on about k qs) → length (behind_on about k qs) + 1 ≡ length qs) → (t : Bool) → IsFirst a (cond t (c ∷ asks_on about k qs) (asks_on about k qs)) → length (cond t qs (c ∷ behind_on about k qs)) + 1 ≡ length (c ∷ qs)
      by more true f = omega arith
      by more false f = let less = more f in omega arith

  pub among_there : (b : Ask) (qs : List Ask) → IsAmong b (asks_on about k qs) → k ≡ shard_in about b
  among_there b [] m = absurd m
  among_there b (a ∷ qs) m = by (among_there b qs) (eqb k (shard_in about a)) refl m
    where
      by : (IsAmong b (asks_on about k qs) → k ≡ shard_in about b) → (t : Bool) → eqb k (shard_in about a) ≡ t → IsAmong b (cond t (a ∷ asks_on about k qs) (asks_on about k qs)) → k ≡ shard_in about b
      by more true e m = ⊎_elim (λ (x : a ≡ b). eqb-true k (shard_in about a) e ∙ ap (shard_in about) x) (λ (t : IsAmong b (asks_on about k qs)). more t) m
      by more false e m = more m

  -- whether calls are left does not depend on which one ended
  pub number_left : (last : ℕ) (a : Ask) (qs : List Ask) → IsFirst a (asks_on about k qs) → number_of last (behind_first qs) ≡ number_of last (behind_on about k qs)
  number_left last a [] f = refl
  number_left last a (c ∷ qs) f = by (eqb k (shard_in about c)) f
    where
      some_left : (l : List Ask) → IsFirst a (asks_on about k l) → number_of last l ≡ last
      some_left [] f = absurd f
      some_left (d ∷ l) f = refl

      by : (t : Bool) → IsFirst a (cond t (c ∷ asks_on about k qs) (asks_on about k qs)) → number_of last qs ≡ number_of last (cond t qs (c ∷ behind_on about k qs))
      by true f = refl
      by false f = some_left qs f

  -- the first of all is the first of its shard
  pub first_there : (a : Ask) (qs : List Ask) → k ≡ shard_in about a → IsFirst a qs → IsFirst a (asks_on about k qs)
  first_there a [] here f = absurd f
  first_there a (c ∷ qs) here f =
      subst (λ (t : Bool). IsFirst a (cond t (c ∷ asks_on about k qs) (asks_on about k qs))) (sym (eq-eqb k (shard_in about c) (here ∙ ap (shard_in about) (sym f)))) f

  pub left_same : (a : Ask) (qs : List Ask) → k ≡ shard_in about a → IsFirst a qs → behind_on about k qs ≡ behind_first qs
  left_same a [] here f = refl
  left_same a (c ∷ qs) here f = ap (λ (t : Bool). cond t qs (c ∷ behind_on about k qs)) (eq-eqb k (shard_in about c) (here ∙ ap (shard_in about) (sym f)))

  free_left : (n : ℕ) (qs : List Ask) → IsFree n qs → IsFree n (behind_on about k qs)
  free_left n [] h = tt
  free_left n (a ∷ qs) h = cond_both (eqb k (shard_in about a)) qs (a ∷ behind_on about k qs) (IsFree n) (λ e. h.1) (λ e. (h.0, free_left n qs h.1))

  pub spent_left : (last : ℕ) (qs : List Ask) (ns : List ℕ) → AreSpent last qs ns → AreSpent last (behind_on about k qs) ns
  spent_left last qs [] h = tt
  spent_left last qs (n ∷ ns) h = (h.0, free_left n qs h.1, spent_left last qs ns h.2)

  -- the number of a call that ended
  pub own_free : (last : ℕ) (a : Ask) (qs : List Ask) → IsQueue last qs → IsFirst a (asks_on about k qs) → IsFree a.number (behind_on about k qs)
  own_free last a [] q f = tt
  own_free last a (c ∷ qs) q f = by (own_free last a qs q.1) (eqb k (shard_in about c)) f
    where
      free_below : (n : ℕ) (l : List Ask) → IsQueue last l → n < floor_of last l → IsFree n l
      free_below n [] q less = tt
      free_below n (d ∷ l) q less = let below = q.0 in ((λ e. omega arith), free_below n l q.1 (omega arith))

      by : (IsFirst a (asks_on about k qs) → IsFree a.number (behind_on about k qs)) → (t : Bool) → IsFirst a (cond t (c ∷ asks_on about k qs) (asks_on about k qs)) → IsFree a.number (cond t qs (c ∷ behind_on about k qs))
      by more true f = free_below a.number qs q.1 (let below = q.0 in let same : c.number ≡ a.number = ap (λ (d : Ask). d.number) f in omega arith)
      by more false f = (
        (λ e. let below = q.0 in let more = floor_on last qs q.1 in let its = (floor_first a last (asks_on about k qs) f (queue_on last qs q.1)).0 in omega arith),
        more f,
      )

-- the first number of those of a shard does not fall
pub floor_stays : (about : About) (j k last : ℕ) (qs : List Ask) → IsQueue last qs → floor_of last (asks_on about j qs) ≤ floor_of last (asks_on about j (behind_on about k qs))
floor_stays about j k last qs q = ⊎_elim
    (λ (e : j ≡ k). subst (λ (i : ℕ). floor_of last (asks_on about i qs) ≤ floor_of last (asks_on about i (behind_on about k qs))) (sym e)
    (subst (λ (l : List Ask). floor_of last (asks_on about k qs) ≤ floor_of last l) (sym (left_here about k qs)) (not_less (asks_on about k qs) (queue_on about k last qs q))))
    (λ (n : j ≢ k). subst (λ (l : List Ask). floor_of last (asks_on about j qs) ≤ floor_of last l) (sym (left_there about k j n qs)) (omega arith))
    (cases_eq j k)
  where
    not_less : (l : List Ask) → IsQueue last l → floor_of last l ≤ floor_of last (behind_first l)
    not_less [] q = omega arith
    not_less (a ∷ l) q = let below = q.0 in omega arith

free_last : (n : ℕ) (qs : List Ask) (a : Ask) → IsFree n qs → a.number ≢ n → IsFree n (qs ++ a ∷ [])
free_last n [] a h d = (d, tt)
free_last n (b ∷ qs) a h d = (h.0, free_last n qs a h.1 d)

-- spent numbers, after a call was announced under a new one
pub spent_last : (last n : ℕ) (qs : List Ask) (a : Ask) (ns : List ℕ) → last < n → a.number ≡ n → AreSpent last qs ns → AreSpent n (qs ++ a ∷ []) ns
spent_last last n qs a [] above is h = tt
spent_last last n qs a (m ∷ ns) above is h = let most = h.0 in ((omega arith), free_last m qs a h.1 (λ e. omega arith), spent_last last n qs a ns above is h.2)

pub spent_more : (last : ℕ) (qs : List Ask) (n : ℕ) (ns : List ℕ) → AreSpent last qs ns → n < last + 1 → IsFree n qs → AreSpent last qs (ns ++ n ∷ [])
spent_more last qs n [] h l f = (l, f, tt)
spent_more last qs n (m ∷ ns) h l f = (h.0, h.1, spent_more last qs n ns h.2 l f)

new_one : (b : Bool) (n : ℕ) (s : Step) (xs : List Step) (more : Bool) → HaveNumbersBelow n (cond b (s ∷ xs) xs) → (HaveNumbersBelow n xs → more ≡ true) → ((not b || nat_lt s.ask.number n) && more) ≡ true
new_one true n s xs more h t = ap (λ c. c && more) (lt-ltb s.ask.number n h.0) ∙ t h.1
new_one false n s xs more h t = t h

-- a call whose number is above those of its pass may follow
pub all_new : (a : Ask) (items : List Item) → HaveNumbersBelow a.number (steps_by a.pass items) → IsTrue (list_all (is_new a) items)
all_new a [] h = refl
all_new a (Answered s ∷ items) h = new_one (eqb a.pass s.ask.pass) a.number s (steps_by a.pass items) (list_all (is_new a) items) h (all_new a items)
all_new a (Failed asks ∷ items) h = all_new a items h

old_one : (b : Bool) (n : ℕ) (s : Step) (xs : List Step) (more : Bool) → HaveNumbersBelow n (cond b (s ∷ xs) xs) → (HaveNumbersBelow n xs → more ≡ false) → ((b && eqb n s.ask.number) || more) ≡ false
old_one true n s xs more h t = ap (λ c. c || more) (ne_eqb n s.ask.number (λ e. let l = h.0 in omega arith)) ∙ t h.1
old_one false n s xs more h t = t h

-- and it has no step
pub no_step : (a : Ask) (items : List Item) → HaveNumbersBelow a.number (steps_by a.pass items) → list_any (is_step_of a) items ≡ false
no_step a [] h = refl
no_step a (Answered s ∷ items) h = old_one (eqb a.pass s.ask.pass) a.number s (steps_by a.pass items) (list_any (is_step_of a) items) h (no_step a items)
no_step a (Failed asks ∷ items) h = no_step a items h

get_last : (xs : List Item) (x y : Item) (n : ℕ) → slice_get (xs ++ x ∷ []) n ≡ Some y
    → ((slice_get xs n ≡ Some y) × (take n (xs ++ x ∷ []) ≡ take n xs)) ⊎ ((x ≡ y) × (take n (xs ++ x ∷ []) ≡ xs))
get_last [] x y zero e = let f : Some x ≡ Some y = e in inr ((cc), refl)
get_last [] x y (suc n) e = let f : None ≡ Some y = e in absurd (cc)
get_last (z ∷ xs) x y zero e = inl (e, refl)
get_last (z ∷ xs) x y (suc n) e = ⊎_elim
    (λ (t : (slice_get xs n ≡ Some y) × (take n (xs ++ x ∷ []) ≡ take n xs)). inl (t.0, ap (λ l. z ∷ l) t.1))
    (λ (t : (x ≡ y) × (take n (xs ++ x ∷ []) ≡ xs)). inr (t.0, ap (λ l. z ∷ l) t.1))
    (get_last xs x y n e)

get_front : (xs ys : List Item) (y : Item) (n : ℕ) → slice_get xs n ≡ Some y → (slice_get (xs ++ ys) n ≡ Some y) × (take n (xs ++ ys) ≡ take n xs)
get_front [] ys y n e = let f : None ≡ Some y = e in absurd (cc)
get_front (x ∷ xs) ys y zero e = (e, refl)
get_front (x ∷ xs) ys y (suc n) e = let t = get_front xs ys y n e in (t.0, ap (λ l. x ∷ l) t.1)

-- a beginning of a legal history is legal
pub legal_front : (about : About) (k : ℕ) (a b : List Item) → IsBeginning a b → IsLegalAt about k b → IsLegalAt about k a
legal_front about k a b h legal = record {
  is = λ n i e.
      let t = get_front a h.rest i n e in
      subst (λ l. MayFollow (terms_of about k) (record { base = base_at about k; items = l }) i) (ap (take n) h.is ∙ t.1) (legal.is n i (subst (λ l. slice_get l n ≡ Some i) (sym h.is) t.0));
}

-- a legal history with an item more that may follow is legal
pub legal_more : (about : About) (k : ℕ) (items : List Item) (x : Item) → IsLegalAt about k items → MayFollow (terms_of about k) (history_of about k items) x → IsLegalAt about k (items ++ x ∷ [])
legal_more about k items x legal may = record {
  is = λ n i e.
      let P : List Item → Type 0 = λ l. MayFollow (terms_of about k) (record { base = base_at about k; items = l }) i in
      ⊎_elim
      (λ (t : (slice_get items n ≡ Some i) × (take n (items ++ x ∷ []) ≡ take n items)). subst P (sym t.1) (legal.is n i t.0))
      (λ (t : (x ≡ i) × (take n (items ++ x ∷ []) ≡ items)). subst P (sym t.1) (subst (λ y. MayFollow (terms_of about k) (history_of about k items) y) t.0 may))
      (get_last items x i n e);
}

pub legal_none : (about : About) (k : ℕ) → IsLegalAt about k []
legal_none about k = record { is = λ n i e. let f : None ≡ Some i = e in absurd (cc) }

-- what stands in histories is of the passes
pub by_passes_append : (n : ℕ) (xs ys : List Item) → IsByPasses n xs → IsByPasses n ys → IsByPasses n (xs ++ ys)
by_passes_append n [] ys h g = g
by_passes_append n (Answered s ∷ xs) ys h g = (h.0, by_passes_append n xs ys h.1 g)
by_passes_append n (Failed asks ∷ xs) ys h g = (h.0, by_passes_append n xs ys h.1 g)

by_passes_left : (n : ℕ) (xs ys : List Item) → IsByPasses n (xs ++ ys) → IsByPasses n xs
by_passes_left n [] ys h = tt
by_passes_left n (Answered s ∷ xs) ys h = (h.0, by_passes_left n xs ys h.1)
by_passes_left n (Failed asks ∷ xs) ys h = (h.0, by_passes_left n xs ys h.1)

pub by_passes_front : (n : ℕ) (a b : List Item) → IsBeginning a b → IsByPasses n b → IsByPasses n a
by_passes_front n a b h g = by_passes_left n a h.rest (subst (λ l. IsByPasses n l) h.is g)

pub marked_step : (xs : List Item) (s : Step) → is_marked (xs ++ Answered s ∷ []) ≡ is_marked xs
marked_step (Answered t ∷ xs) s = marked_step xs s
marked_step xs s = refl

pub marked_mark : (xs : List Item) (asks : List Ask) → is_marked (xs ++ Failed asks ∷ []) ≡ true
marked_mark (Answered t ∷ xs) asks = marked_mark xs asks
marked_mark xs asks = refl

-- with a mark its list is in doubt, without one what else is
pub doubt_marked : (xs : List Item) (asks : List Ask) → is_marked xs ≡ true → doubt_or xs asks ≡ doubt_of xs
doubt_marked [] asks e = absurd (cc)
doubt_marked (Answered s ∷ xs) asks e = doubt_marked xs asks e
doubt_marked (Failed more ∷ xs) asks e = refl

pub doubt_unmarked : (xs : List Item) (asks : List Ask) → is_marked xs ≡ false → doubt_or xs asks ≡ asks
doubt_unmarked [] asks e = refl
doubt_unmarked (Answered s ∷ xs) asks e = doubt_unmarked xs asks e
doubt_unmarked (Failed more ∷ xs) asks e = absurd (cc)

total_same : (n : ℕ) (xs ys : List Item) → ((p : ℕ) → p < n → steps_by p ys ≡ steps_by p xs) → steps_in_all n ys ≡ steps_in_all n xs
total_same zero xs ys same = refl
total_same (suc n) xs ys same =
    let a : steps_in_all n ys ≡ steps_in_all n xs = total_same n xs ys (λ p l. same p (omega arith)) in
    let b : length (steps_by n ys) ≡ length (steps_by n xs) = ap length (same n (omega arith)) in
    omega arith

-- one more step of a pass below n is one more in the total
pub total_step : (n : ℕ) (xs : List Item) (s : Step) → s.ask.pass < n → steps_in_all n (xs ++ Answered s ∷ []) ≡ steps_in_all n xs + 1
total_step zero xs s h = absurd (omega arith)
total_step (suc n) xs s h = ⊎_elim
    (λ (e : n ≡ s.ask.pass).
    let a : steps_in_all n (xs ++ Answered s ∷ []) ≡ steps_in_all n xs = total_same n xs (xs ++ Answered s ∷ []) (λ p l. steps_else p xs s (λ d. omega arith)) in
    let b : length (steps_by n (xs ++ Answered s ∷ [])) ≡ length (steps_by n xs) + 1 = ap length (steps_mine n xs s e) ∙ length-append (steps_by n xs) (s ∷ []) in
    omega arith)
    (λ (e : n ≢ s.ask.pass).
    let a : steps_in_all n (xs ++ Answered s ∷ []) ≡ steps_in_all n xs + 1 = total_step n xs s (omega arith) in
    let b : length (steps_by n (xs ++ Answered s ∷ [])) ≡ length (steps_by n xs) = ap length (steps_else n xs s e) in
    omega arith)
    (cases_eq n s.ask.pass)

pub total_mark : (n : ℕ) (xs : List Item) (asks : List Ask) → steps_in_all n (xs ++ Failed asks ∷ []) ≡ steps_in_all n xs
total_mark n xs asks = total_same n xs (xs ++ Failed asks ∷ []) (λ p l. steps_mark p xs asks)

pub total_least : (n : ℕ) (xs : List Item) → ((p : ℕ) → p < n → length (steps_by p xs) ≤ bound) → steps_in_all n xs ≤ n * bound
total_least zero xs h = omega arith
total_least (suc n) xs h =
    let a : steps_in_all n xs ≤ n * bound = total_least n xs (λ p l. h p (omega arith)) in
    let b : length (steps_by n xs) ≤ bound = h n (omega arith) in
    omega arith
