-- Several open calls of a pass: tickets in line, and calls that are made as if one after another.
use Rattle.std.proofs.Common.{◌≡◌, ℕ, ◌+◌, List, [], ◌∷◌, ◌++◌, Bool, true, false, cond, eqb, refl, sym, ap, ◌∙◌, subst, append-nil, eqb-true}
use Rattle.atomic_table.specs.Seated.{TableId}
use Rattle.history.proofs.Common.{Call, Reply, Ask, Step, Item, Answered, About, Caller, shard_in, step_of, steps_by, HasStep, HaveSteps, behind_first, asks_on, ask_of, before_of, announce_to, withdraw_to, collect_to, Announced, ticket_for, tickets_announced, tickets_on, AreInLine}
use Rattle.history.proofs.Past.{asks_on_append, have_more, have_last, made_now}

line_cond : (front : List Ask) (b : Bool) (t : Announced) (ts : List Announced) → (b ≡ true → t.before ≡ front) → AreInLine (front ++ cond b (t.ask ∷ []) []) ts → AreInLine front (cond b (t ∷ ts) ts)
line_cond front true t ts f h = (f refl, h)
line_cond front false t ts f h = subst (λ (l : List Ask). AreInLine l ts) (append-nil front) h

-- the tickets of one shard, of calls that a pass announces one after another, stand in line after its open calls there
pub stand_in_line : (table : TableId) (about : About) (k : ℕ) (c : Caller) (calls : List Call) → c.about ≡ about → AreInLine (asks_on about k c.pending) (tickets_on about k (tickets_announced table c calls))
stand_in_line table about k c [] at = tt
stand_in_line table about k c (call ∷ calls) at =
    let n : ℕ = c.last + 1 in
    let a : Ask = ask_of c n call in
    line_cond (asks_on about k c.pending) (eqb k (shard_in about a)) (ticket_for table c n call) (tickets_on about k (tickets_announced table (announce_to c n call) calls))
    (λ e. (λ i. asks_on (at i) (shard_in (at i) a) c.pending) ∙ ap (λ (j : ℕ). asks_on about j c.pending) (sym (eqb-true k (shard_in about a) e)))
    (subst (λ (l : List Ask). AreInLine l (tickets_on about k (tickets_announced table (announce_to c n call) calls))) (asks_on_append about k c.pending (a ∷ [])) (stand_in_line table about k (announce_to c n call) calls at))

-- a call that no open one stands before
pub alone_before : (c : Caller) (n : ℕ) (call : Call) → c.pending ≡ [] → before_of c n call ≡ []
alone_before c n call idle = ap (λ (l : List Ask). asks_on c.about (shard_in c.about (ask_of c n call)) l) idle

-- a call whose one open call before it has its step may be committed
pub one_before : (c : Caller) (n m : ℕ) (one two : Call) (items : List Item) → c.pending ≡ [] → HasStep (ask_of c n one) (steps_by c.pass items) → HaveSteps (before_of (announce_to c n one) m two) items
one_before c n m one two items idle made =
    let a : Ask = ask_of c n one in
    let k : ℕ = shard_in c.about (ask_of c m two) in
    subst (λ (l : List Ask). HaveSteps (asks_on c.about k (l ++ a ∷ [])) items) (sym idle) (one_or_none (eqb k (shard_in c.about a)) a made)
  where
    one_or_none : (b : Bool) (a : Ask) → HasStep a (steps_by a.pass items) → HaveSteps (cond b (a ∷ []) []) items
    one_or_none true a made = (made, tt)
    one_or_none false a made = tt

-- the first ticket of a line may be committed where all in front of it have steps, and then the next one may
pub line_ready : (front : List Ask) (t : Announced) (ts : List Announced) (items : List Item) (r : Reply) → AreInLine front (t ∷ ts) → HaveSteps front items
    → HaveSteps t.before items × HaveSteps (front ++ t.ask ∷ []) (items ++ Answered (step_of t.ask r) ∷ []) × AreInLine (front ++ t.ask ∷ []) ts
line_ready front t ts items r line had =
    let s : Step = step_of t.ask r in
    (subst (λ (l : List Ask). HaveSteps l items) (sym line.0) had, have_last front t.ask (items ++ Answered s ∷ []) (have_more front items (Answered s ∷ []) had) (made_now s items), line.1)

behind_two : (qs : List Ask) (a b : Ask) → behind_first ((qs ++ a ∷ []) ++ b ∷ []) ≡ behind_first (qs ++ a ∷ []) ++ b ∷ []
behind_two [] a b = refl
behind_two (c ∷ qs) a b = refl

-- a call that is announced before an answer is taken in leaves what it would leave after it
pub collects_first : (c : Caller) (n m : ℕ) (one two : Call) (s : Step) (upto : List Item) → collect_to (announce_to (announce_to c n one) m two) s upto ≡ announce_to (collect_to (announce_to c n one) s upto) m two
collects_first c n m one two s upto = λ i. record (announce_to (collect_to (announce_to c n one) s upto) m two) { pending = behind_two c.pending (ask_of c n one) (ask_of c m two) i }

-- and before a call is taken back
pub withdraws_first : (c : Caller) (n m k : ℕ) (one two : Call) → withdraw_to (announce_to (announce_to c n one) m two) k ≡ announce_to (withdraw_to (announce_to c n one) k) m two
withdraws_first c n m k one two = λ i. record (announce_to (withdraw_to (announce_to c n one) k) m two) { pending = behind_two c.pending (ask_of c n one) (ask_of c m two) i }
