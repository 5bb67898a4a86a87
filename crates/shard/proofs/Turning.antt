-- What stands of jobs when others before them are done, and when those of a pass go.
use Rattle.std.proofs.Common.{◌≡◌, ◌⊎◌, ℕ, Bool, true, false, cond, eqb, List, [], ◌∷◌, ◌++◌, length, inl, inr, refl, sym, ap, ◌∙◌, subst, append_assoc, append-nil, eq-eqb, ne_eqb, eqb-true, arith}
use Rattle.accept.specs.declared.call.Reply.{Reply}
use Rattle.accept.specs.declared.call.Reply.TheVariants.{Unavailable}
use Rattle.accept.specs.Calls.{AreNumbers}
use Rattle.accept.specs.declared.history.Ask.{Ask}
use Rattle.accept.specs.declared.history.Item.{Item}
use Rattle.accept.specs.declared.history.Item.TheVariants.{Answered, Failed}
use Rattle.disk.specs.Sight.{Sight}
use Rattle.history.specs.declared.views.About.{About}
use Rattle.history.specs.Histories.{HasStep, IsAmong, of_pass, steps_by, reply_of, shard_in, step_of}
use Rattle.history.specs.Handles.{Booked, Announced, Received, AreOf, asks_of, longer}
use Rattle.history.proofs.Past.{made_now}
use Rattle.shard.specs.declared.first_jobs.Job.{Job}
use Rattle.shard.specs.Groups.{items_with, with_steps, changing_of, marked_by, HaveStepsOr, AreInTurn}
use Rattle.shard.specs.Jobs.{tickets_of, jobs_but, AreLawful, AreInPassTurn}
use Rattle.shard.specs.Parts.{IsApplied}
use Rattle.shard.specs.Shards.{Sharded}
use Rattle.shard.specs.Turns.{Span, AreReady, AreStepped}
use Rattle.shard.proofs.Groups.{turn_step, turn_or}

-- Turns by passes.

among_kept : (a b : Ask) (t : Bool) (some all : List Ask) → (IsAmong a some → IsAmong a all) → IsAmong a (cond t (b ∷ some) some) → (b ≡ a) ⊎ IsAmong a all
among_kept a b true some all f (inl e) = inl e
among_kept a b true some all f (inr m) = inr (f m)
among_kept a b false some all f m = inr (f m)

-- the calls of a pass are among all
pub among_by : (a : Ask) (p : ℕ) (asks : List Ask) → IsAmong a (of_pass p asks) → IsAmong a asks
among_by a p [] m = absurd m
among_by a p (b ∷ asks) m = among_kept a b (eqb p b.pass) (of_pass p asks) asks (among_by a p asks) m

or_among : (asks : List Ask) (items : List Item) (some all : List Ask) → ((a : Ask) → IsAmong a some → IsAmong a all) → HaveStepsOr asks items some → HaveStepsOr asks items all
or_among [] items some all f h = tt
or_among (a ∷ asks) items some all f h = (
  elim h.0 [
    | inl s ↦ inl s
    | inr m ↦ inr (f a m)
  ],
  or_among asks items some all f h.1,
)

-- a call of the same pass in front is a call in front
pub pass_turn : (items : List Item) (front : List Ask) (ts : List Announced) → AreInPassTurn items front ts → AreInTurn items front ts
pass_turn items front [] h = tt
pass_turn items front (t ∷ ts) h = (
  or_among t.before items (of_pass t.ask.pass front) front (λ a m. among_by a t.ask.pass front m) h.0,
  pass_turn items (front ++ t.ask ∷ []) ts h.1,
)

-- of tickets one after the other
pub pass_turn_front : (items : List Item) (front : List Ask) (ts us : List Announced) → AreInPassTurn items front (ts ++ us) → AreInPassTurn items front ts
pass_turn_front items front [] us h = tt
pass_turn_front items front (t ∷ ts) us h = (h.0, pass_turn_front items (front ++ t.ask ∷ []) ts us h.1)

pub pass_turn_rest : (items : List Item) (front : List Ask) (ts us : List Announced) → AreInPassTurn items front (ts ++ us) → AreInPassTurn items (front ++ asks_of ts) us
pass_turn_rest items front [] us h = subst (λ (l : List Ask). AreInPassTurn items l us) (sym (append-nil front)) h
pass_turn_rest items front (t ∷ ts) us h =
    subst (λ (l : List Ask). AreInPassTurn items l us) (append_assoc front (t.ask ∷ []) (asks_of ts)) (pass_turn_rest items (front ++ t.ask ∷ []) ts us h.1)

made_cond : (asks : List Ask) (items more : List Item) (a : Ask) (b : Bool) (some : List Ask) → HasStep a (steps_by a.pass (items ++ more))
    → HaveStepsOr asks items (cond b (a ∷ some) some) → HaveStepsOr asks (items ++ more) some
made_cond asks items more a true some there h = turn_step asks items more a some there h
made_cond asks items more a false some there h = turn_or asks items more some h

-- the first in front has its step now
pub pass_turn_made : (items more : List Item) (a : Ask) (front : List Ask) (ts : List Announced) → HasStep a (steps_by a.pass (items ++ more))
    → AreInPassTurn items (a ∷ front) ts → AreInPassTurn (items ++ more) front ts
pass_turn_made items more a front [] there h = tt
pass_turn_made items more a front (t ∷ ts) there h = (
  made_cond t.before items more a (eqb t.ask.pass a.pass) (of_pass t.ask.pass front) there h.0,
  pass_turn_made items more a (front ++ t.ask ∷ []) ts there h.1,
)

-- more items
pub pass_turn_more : (items more : List Item) (front : List Ask) (ts : List Announced) → AreInPassTurn items front ts → AreInPassTurn (items ++ more) front ts
pass_turn_more items more front [] h = tt
pass_turn_more items more front (t ∷ ts) h = (turn_or t.before items more (of_pass t.ask.pass front) h.0, pass_turn_more items more (front ++ t.ask ∷ []) ts h.1)

-- all in front have their steps now
pub pass_turn_steps : (about : About) (k : ℕ) (items : List Item) (asks : List Ask) (ts : List Announced) → AreInPassTurn items asks ts → AreInPassTurn (items_with about k items asks) [] ts
pass_turn_steps about k items [] ts h = h
pass_turn_steps about k items (a ∷ asks) ts h =
    let s = step_of a (reply_of about k items a.call) in
    pass_turn_steps about k (items ++ Answered s ∷ []) asks ts (pass_turn_made items (Answered s ∷ []) a asks ts (made_now s items) h)

-- The jobs of a pass go.

-- the calls of other passes
abbrev pub calls_but : ℕ → List Ask → List Ask
calls_but p [] = []
calls_but p (a ∷ asks) = cond (eqb p a.pass) (calls_but p asks) (a ∷ calls_but p asks)

but_cond : (b : Bool) (x : Ask) (xs ys : List Ask) → cond b (xs ++ ys) (x ∷ (xs ++ ys)) ≡ cond b xs (x ∷ xs) ++ ys
but_cond true x xs ys = refl
but_cond false x xs ys = refl

but_last : (p : ℕ) (asks : List Ask) (a : Ask) → calls_but p (asks ++ a ∷ []) ≡ calls_but p asks ++ cond (eqb p a.pass) [] (a ∷ [])
but_last p [] a = refl
but_last p (x ∷ asks) a =
    ap (λ (l : List Ask). cond (eqb p x.pass) l (x ∷ l)) (but_last p asks a) ∙ but_cond (eqb p x.pass) x (calls_but p asks) (cond (eqb p a.pass) [] (a ∷ []))

other_pass : (p q r : ℕ) → eqb p q ≡ false → eqb p r ≡ true → eqb q r ≡ false
other_pass p q r e f = ne_eqb q r (λ (same : q ≡ r). let g : eqb p q ≡ true = eq-eqb p q (eqb-true p r f ∙ sym same) in absurd (cc))

-- what is left of another pass is all that was
by_but : (p q : ℕ) (asks : List Ask) → eqb p q ≡ false → of_pass q asks ≡ of_pass q (calls_but p asks)
by_but p q [] e = refl
by_but p q (a ∷ asks) e =
    elim (eqb p a.pass) as (λ b. eqb p a.pass ≡ b → cond (eqb q a.pass) (a ∷ of_pass q asks) (of_pass q asks) ≡ of_pass q (cond b (calls_but p asks) (a ∷ calls_but p asks))) [
      | true ↦ λ f. ap (λ (t : Bool). cond t (a ∷ of_pass q asks) (of_pass q asks)) (other_pass p q a.pass e f) ∙ by_but p q asks e
      | false ↦ λ f. ap (λ (l : List Ask). cond (eqb q a.pass) (a ∷ l) l) (by_but p q asks e)
    ] refl

-- the others are in turn without them
pub pass_turn_but : (items : List Item) (p : ℕ) (front : List Ask) (jobs : List Job) → AreInPassTurn items front (tickets_of jobs) → AreInPassTurn items (calls_but p front) (tickets_of (jobs_but p jobs))
pass_turn_but items p front [] h = tt
pass_turn_but items p front (j ∷ jobs) h =
    let ask = j.ticket.ask in
    let rest = jobs_but p jobs in
    let behind = subst (λ (l : List Ask). AreInPassTurn items l (tickets_of rest)) (but_last p front ask) (pass_turn_but items p (front ++ ask ∷ []) jobs h.1) in
    elim (eqb p ask.pass) as (λ b. eqb p ask.pass ≡ b → AreInPassTurn items (calls_but p front ++ cond b [] (ask ∷ [])) (tickets_of rest) → AreInPassTurn items (calls_but p front) (tickets_of (cond b rest (j ∷ rest)))) [
      | true ↦ λ e r. subst (λ (l : List Ask). AreInPassTurn items l (tickets_of rest)) (append-nil (calls_but p front)) r
      | false ↦ λ e r. (subst (λ (l : List Ask). HaveStepsOr j.ticket.before items l) (by_but p ask.pass front e) h.0, r)
    ] refl behind

-- the first is of its own pass
pub but_first : (j : Job) (jobs : List Job) → jobs_but j.ticket.ask.pass (j ∷ jobs) ≡ jobs_but j.ticket.ask.pass jobs
but_first j jobs =
    let p = j.ticket.ask.pass in
    ap (λ (b : Bool). cond b (jobs_but p jobs) (j ∷ jobs_but p jobs)) (eq-eqb p p refl)

lawful_cond : (about : About) (k : ℕ) (b : Bool) (j : Job) (rest : List Job) → (shard_in about j.ticket.ask ≡ k) × (j.ticket.ask.call ≡ j.call) × AreNumbers j.call → AreLawful about k rest
    → AreLawful about k (cond b rest (j ∷ rest))
lawful_cond about k true j rest first h = h
lawful_cond about k false j rest first h = (first.0, first.1, first.2, h)

pub lawful_but : (about : About) (k p : ℕ) (jobs : List Job) → AreLawful about k jobs → AreLawful about k (jobs_but p jobs)
lawful_but about k p [] h = tt
lawful_but about k p (j ∷ jobs) h = lawful_cond about k (eqb p j.ticket.ask.pass) j (jobs_but p jobs) (h.0, h.1, h.2) (lawful_but about k p jobs h.3)

of_cond : (book : Booked) (b : Bool) (j : Job) (rest : List Job) → (j.ticket.table ≡ book.table) × (shard_in book.about j.ticket.ask ≡ book.shard) → AreOf book (tickets_of rest) → AreOf book (tickets_of (cond b rest (j ∷ rest)))
of_cond book true j rest first h = h
of_cond book false j rest first h = (first.0, first.1, h)

pub of_but : (book : Booked) (p : ℕ) (jobs : List Job) → AreOf book (tickets_of jobs) → AreOf book (tickets_of (jobs_but p jobs))
of_but book p [] h = tt
of_but book p (j ∷ jobs) h = of_cond book (eqb p j.ticket.ask.pass) j (jobs_but p jobs) (h.0, h.1) (of_but book p jobs h.2)

-- Tickets of a book.

pub of_front : (book : Booked) (ts us : List Announced) → AreOf book (ts ++ us) → AreOf book ts
of_front book [] us h = tt
of_front book (t ∷ ts) us h = (h.0, h.1, of_front book ts us h.2)

pub of_rest : (book : Booked) (ts us : List Announced) → AreOf book (ts ++ us) → AreOf book us
of_rest book [] us h = h
of_rest book (t ∷ ts) us h = of_rest book ts us h.2

pub of_both : (book : Booked) (ts us : List Announced) → AreOf book ts → AreOf book us → AreOf book (ts ++ us)
of_both book [] us h k = k
of_both book (t ∷ ts) us h k = (h.0, h.1, of_both book ts us h.2 k)

-- the items are no matter
pub of_items : (book : Booked) (items : List Item) (ts : List Announced) → AreOf book ts → AreOf (record book { items = items }) ts
of_items book items [] h = tt
of_items book items (t ∷ ts) h = (h.0, h.1, of_items book items ts h.2)

-- Jobs that may be made.

-- those after a group that has its steps
pub ready_front : (book : Booked) (front : List Announced) (jobs rest : List Job) → AreReady book jobs → tickets_of jobs ≡ front ++ tickets_of rest → AreLawful book.about book.shard rest
    → AreReady (with_steps book (asks_of front)) rest
ready_front book front jobs rest ready split lawful =
    let asks = asks_of front in
    record {
      of_book = of_items book (items_with book.about book.shard book.items asks) (tickets_of rest) (of_rest book front (tickets_of rest) (subst (λ (l : List Announced). AreOf book l) split ready.of_book));
      lawful = lawful;
      turn = pass_turn_steps book.about book.shard book.items asks (tickets_of rest)
          (pass_turn_rest book.items [] front (tickets_of rest) (subst (λ (l : List Announced). AreInPassTurn book.items [] l) split ready.turn));
    }

-- a mark more
pub ready_mark : (book : Booked) (asks : List Ask) (jobs : List Job) → AreReady book jobs → AreReady (longer book (Failed asks)) jobs
ready_mark book asks jobs ready = record {
  of_book = of_items book (book.items ++ Failed asks ∷ []) (tickets_of jobs) ready.of_book;
  lawful = ready.lawful;
  turn = pass_turn_more book.items (Failed asks ∷ []) [] (tickets_of jobs) ready.turn;
}

pub ready_front_lost : (book : Booked) (front : List Announced) (jobs rest : List Job) → AreReady book jobs → tickets_of jobs ≡ front ++ tickets_of rest → AreLawful book.about book.shard rest
    → AreReady (with_steps (marked_by book (asks_of front)) (asks_of front)) rest
ready_front_lost book front jobs rest ready split lawful =
    let asks = asks_of front in
    ready_front (marked_by book asks) front jobs rest (ready_mark book (changing_of book asks) jobs ready) split lawful

-- either way
pub ready_stepped : {D : Type 0} (sight : D → Sight) (s : Span D) (front : List Announced) (jobs rest : List Job) → AreStepped sight s front
    → AreReady s.old.book jobs → tickets_of jobs ≡ front ++ tickets_of rest → AreLawful s.old.book.about s.old.book.shard rest → AreReady s.new.book rest
ready_stepped sight s front jobs rest (inl made) ready split lawful = subst (λ (b : Booked). AreReady b rest) (sym made.1) (ready_front s.old.book front jobs rest ready split lawful)
ready_stepped sight s front jobs rest (inr lost) ready split lawful = subst (λ (b : Booked). AreReady b rest) (sym lost.1) (ready_front_lost s.old.book front jobs rest ready split lawful)

-- those after the first that has its step
pub ready_step : (book : Booked) (j : Job) (rest : List Job) (r : Reply) → AreReady book (j ∷ rest) → AreReady (longer book (Answered (step_of j.ticket.ask r))) rest
ready_step book j rest r ready =
    let s = step_of j.ticket.ask r in
    record {
      of_book = of_items book (book.items ++ Answered s ∷ []) (tickets_of rest) ready.of_book.2;
      lawful = ready.lawful.3;
      turn = pass_turn_made book.items (Answered s ∷ []) j.ticket.ask [] (tickets_of rest) (made_now s book.items) ready.turn.1;
    }

pub ready_alone : (book new : Booked) (j : Job) (rest : List Job) (r : Reply) → AreReady book (j ∷ rest) → new ≡ longer book (Answered (step_of j.ticket.ask r)) → AreReady new rest
ready_alone book new j rest r ready is = subst (λ (b : Booked). AreReady b rest) (sym is) (ready_step book j rest r ready)

pub ready_alone_lost : (book new : Booked) (j : Job) (rest : List Job) (asks : List Ask) (r : Reply) → AreReady book (j ∷ rest) → new ≡ longer (longer book (Failed asks)) (Answered (step_of j.ticket.ask r)) → AreReady new rest
ready_alone_lost book new j rest asks r ready is =
    subst (λ (b : Booked). AreReady b rest) (sym is) (ready_step (longer book (Failed asks)) j rest r (ready_mark book asks (j ∷ rest) ready))

-- either way
pub ready_applied : {D : Type 0} (sight : D → Sight) (follows : D → Type 0) (old new : Sharded D) (j : Job) (rest : List Job) (reply : Reply) (receipt : Received) → IsApplied sight follows old new j.ticket reply receipt
    → AreReady old.book (j ∷ rest) → AreReady new.book rest
ready_applied sight follows old new j rest reply receipt applied ready =
    elim applied.step [
      | inl made ↦ ready_alone old.book new.book j rest reply ready made.book
      | inr lost ↦ ready_alone_lost old.book new.book j rest (j.ticket.ask ∷ []) Unavailable ready lost.book
    ]

-- those of other passes
pub ready_but : (book : Booked) (p : ℕ) (jobs : List Job) → AreReady book jobs → AreReady book (jobs_but p jobs)
ready_but book p jobs ready = record {
  of_book = of_but book p jobs ready.of_book;
  lawful = lawful_but book.about book.shard p jobs ready.lawful;
  turn = pass_turn_but book.items p [] jobs ready.turn;
}

-- Numbers of jobs.

pub length_tickets : (jobs : List Job) → length (tickets_of jobs) ≡ length jobs
length_tickets [] = refl
length_tickets (j ∷ jobs) = omega (arith, length_tickets jobs)
