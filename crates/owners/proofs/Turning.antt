-- What a turn leaves: the shard of its lock, what came of its calls, and calls for the next turn.
use Rattle.std.proofs.Common.{◌≡◌, ℕ, suc, ◌+◌, ◌<◌, ◌≤◌, Bool, true, false, cond, ◌==◌, List, [], ◌∷◌, ◌++◌, length, length-append, inl, inr, refl, sym, ap, ◌∙◌, subst, eq-eqb, arith}
use Rattle.std.specs.Prelude.{Some}
use Rattle.atomic_table.specs.Seated.{TableId}
use Rattle.accept.specs.declared.history.Ask.{Ask}
use Rattle.accept.specs.declared.call.Reply.{Reply}
use Rattle.disk.specs.Sight.{Sight}
use Rattle.wal.specs.declared.log.Wal.{Wal}
use Rattle.wal.specs.Logs.{Follow, slots}
use Rattle.history.specs.declared.views.About.{About}
use Rattle.history.specs.Histories.{doubt_of, shard_in, step_of}
use Rattle.history.specs.Handles.{Announced, Booked, Received, AreOf, asks_of}
use Rattle.shard.specs.declared.fault.ApplyFault.{ApplyFault}
use Rattle.shard.specs.declared.first_jobs.Job.{Job}
use Rattle.shard.specs.declared.group.Settled.{Settled}
use Rattle.shard.specs.declared.group.Settled.TheVariants.{Answered}
use Rattle.shard.specs.Groups.{with_step, marked_by}
use Rattle.shard.specs.Keeping.{KeepsHistory, moments}
use Rattle.shard.specs.Jobs.{tickets_of, jobs_by, jobs_but, AreLawful, AreInPassTurn}
use Rattle.shard.specs.Parts.{IsApplied}
use Rattle.shard.specs.Queues.{settled_of}
use Rattle.shard.specs.Shards.{Sharded}
use Rattle.shard.specs.Turns.{Turn, span_of, AreReady, AreStepped, IsAlone, IsGivenBack, IsTurn, given_back_of}
use Rattle.shard.proofs.Turning.{pass_turn_more}
use Rattle.owners.specs.Calls.{AreSureTickets, AreWaiting, AreOfCalls}
use Rattle.owners.specs.Openings.{Opening}
use Rattle.shard.specs.Leads.{IsMade, Lead}
use Rattle.owners.specs.Places.{IsOf, opened_shard}
use Rattle.shard.proofs.Leading.{lead_more}

-- Before the first turn.

module _ (table : TableId) (about : About) where
  pub waiting_open : (k : ℕ) (jobs : List Job) → AreWaiting table about k jobs → AreSureTickets table (tickets_of jobs)
  waiting_open k [] h = tt
  waiting_open k (j ∷ jobs) h = (h.0.ticket, waiting_open k jobs h.1)

  module _ (book : Booked) (same_table : book.table ≡ table) (same_about : book.about ≡ about) where
    are_of : (jobs : List Job) → AreWaiting table about book.shard jobs → AreOf book (tickets_of jobs)
    are_of [] h = tt
    are_of (j ∷ jobs) h = (h.0.ticket.same_table ∙ sym same_table, ap (λ (a : About). shard_in a j.ticket.ask) same_about ∙ h.0.shard, are_of jobs h.1)

    are_lawful : (jobs : List Job) → AreWaiting table about book.shard jobs → AreLawful book.about book.shard jobs
    are_lawful [] h = tt
    are_lawful (j ∷ jobs) h = (ap (λ (a : About). shard_in a j.ticket.ask) same_about ∙ h.0.shard, h.0.call, h.0.numbers, are_lawful jobs h.1)

    -- calls that wait at the shard may be made
    pub waiting_ready : (jobs : List Job) → AreWaiting table about book.shard jobs → AreInPassTurn [] [] (tickets_of jobs) → AreReady book jobs
    waiting_ready jobs h turn = record { of_book = are_of jobs h; lawful = are_lawful jobs h; turn = pass_turn_more [] book.items [] (tickets_of jobs) turn }

  -- Tickets among others.

  open_front : (xs ys : List Announced) → AreSureTickets table (xs ++ ys) → AreSureTickets table xs
  open_front [] ys h = tt
  open_front (x ∷ xs) ys h = (h.0, open_front xs ys h.1)

  open_back : (xs ys : List Announced) → AreSureTickets table (xs ++ ys) → AreSureTickets table ys
  open_back [] ys h = h
  open_back (x ∷ xs) ys h = open_back xs ys h.1

  open_by : (p : ℕ) (jobs : List Job) → AreSureTickets table (tickets_of jobs) → AreSureTickets table (tickets_of (jobs_by p jobs))
  open_by p [] h = tt
  open_by p (j ∷ jobs) h = pick (open_by p jobs h.1) (p == j.ticket.ask.pass)
    where
      pick : AreSureTickets table (tickets_of (jobs_by p jobs)) → (b : Bool) → AreSureTickets table (tickets_of (cond b (j ∷ jobs_by p jobs) (jobs_by p jobs)))
      pick behind true = (h.0, behind)
      pick behind false = behind

  open_but : (p : ℕ) (jobs : List Job) → AreSureTickets table (tickets_of jobs) → AreSureTickets table (tickets_of (jobs_but p jobs))
  open_but p [] h = tt
  open_but p (j ∷ jobs) h = pick (open_but p jobs h.1) (p == j.ticket.ask.pass)
    where
      pick : AreSureTickets table (tickets_of (jobs_but p jobs)) → (b : Bool) → AreSureTickets table (tickets_of (cond b (jobs_but p jobs) (j ∷ jobs_but p jobs)))
      pick behind true = behind
      pick behind false = (h.0, behind)

length_but : (p : ℕ) (jobs : List Job) → length (jobs_but p jobs) ≤ length jobs
length_but p [] = omega arith
length_but p (j ∷ jobs) = pick (length_but p jobs) (p == j.ticket.ask.pass)
  where
    pick : length (jobs_but p jobs) ≤ length jobs → (b : Bool) → length (cond b (jobs_but p jobs) (j ∷ jobs_but p jobs)) ≤ length (j ∷ jobs)
    pick few true = omega arith
    pick few false = omega arith

by_first : (j : Job) (jobs : List Job) → jobs_by j.ticket.ask.pass (j ∷ jobs) ≡ j ∷ jobs_by j.ticket.ask.pass jobs
by_first j jobs = let p = j.ticket.ask.pass in ap (λ (b : Bool). cond b (j ∷ jobs_by p jobs) (jobs_by p jobs)) (eq-eqb p p refl)

but_first : (j : Job) (jobs : List Job) → jobs_but j.ticket.ask.pass (j ∷ jobs) ≡ jobs_but j.ticket.ask.pass jobs
but_first j jobs = let p = j.ticket.ask.pass in ap (λ (b : Bool). cond b (jobs_but p jobs) (j ∷ jobs_but p jobs)) (eq-eqb p p refl)

length_tickets : (jobs : List Job) → length (tickets_of jobs) ≡ length jobs
length_tickets [] = refl
length_tickets (j ∷ jobs) = ap suc (length_tickets jobs)

-- What came of calls.

module _ {D : Type 0} (opening : Opening D) where
  settled_calls : (ts : List Announced) (moment : ℕ × ℕ) → AreSureTickets opening.table ts → (book : Booked) → AreOfCalls opening.table (settled_of book ts moment)
  settled_calls [] moment h book = tt
  settled_calls (t ∷ ts) moment h book = ((h.0.same_table, refl), settled_calls ts moment h.1 (with_step book t.ask))

  refused_calls : (fault : ApplyFault) (ts : List Announced) → AreSureTickets opening.table ts → AreOfCalls opening.table (given_back_of fault ts)
  refused_calls fault [] h = tt
  refused_calls fault (t ∷ ts) h = ((h.0.same_table, h.0.sure), refused_calls fault ts h.1)

-- A turn.

module _ {D : Type 0} (sight : D → Sight) (follows : D → Type 0) (opening : Opening D) (turn : Turn D) where
  abbrev Opens : List Job → Type 0
  Opens l = AreSureTickets opening.table (tickets_of l)

  record IsSame : Type 0 where
    pub table : turn.new.book.table ≡ turn.old.book.table
    pub about : turn.new.book.about ≡ turn.old.book.about
    pub shard : turn.new.book.shard ≡ turn.old.book.shard
    pub opened : turn.new.opened ≡ turn.old.opened

  stepped_same : (ts : List Announced) → AreStepped sight (span_of turn) ts → turn.new.opened ≡ turn.old.opened → IsSame
  stepped_same ts (inl made) opened = record { table = ap (λ (b : Booked). b.table) made.1; about = ap (λ (b : Booked). b.about) made.1; shard = ap (λ (b : Booked). b.shard) made.1; opened = opened }
  stepped_same ts (inr lost) opened = record { table = ap (λ (b : Booked). b.table) lost.1; about = ap (λ (b : Booked). b.about) lost.1; shard = ap (λ (b : Booked). b.shard) lost.1; opened = opened }

  alone_same : (t : Announced) (reply : Reply) (receipt : Received) → IsApplied sight follows turn.old turn.new t reply receipt → IsSame
  alone_same t reply receipt h = elim h.step [
    | inl m ↦ record { table = ap (λ (b : Booked). b.table) m.book; about = ap (λ (b : Booked). b.about) m.book; shard = ap (λ (b : Booked). b.shard) m.book; opened = h.opened }
    | inr l ↦ record { table = ap (λ (b : Booked). b.table) l.book; about = ap (λ (b : Booked). b.about) l.book; shard = ap (λ (b : Booked). b.shard) l.book; opened = h.opened }
  ]

  turn_same : IsTurn sight follows turn → IsSame
  turn_same (inl h) = stepped_same h.front h.applied.stepped h.applied.opened
  turn_same (inr (inl h)) = alone_same h.job.ticket h.reply h.receipt h.applied
  turn_same (inr (inr h)) = let e = h.same in
      record { table = ap (λ (s : Sharded D). s.book.table) e; about = ap (λ (s : Sharded D). s.book.about) e; shard = ap (λ (s : Sharded D). s.book.shard) e; opened = ap (λ (s : Sharded D). s.opened) e }

  -- the shard is that of its lock
  pub turn_of : (k : ℕ) → IsMade sight follows turn → IsOf sight follows opening k turn.old → IsOf sight follows opening k turn.new
  turn_of k made is =
      let s = turn_same made.turn in
      record {
        table = s.table ∙ is.table;
        about = s.about ∙ is.about;
        number = s.shard ∙ is.number;
        opened = is.opened ∙ ap Some (sym s.opened);
        turns = is.turns ++ turn ∷ [];
        turned = subst (λ (log : Wal D). Lead sight follows (opened_shard opening k log) (is.turns ++ turn ∷ []) turn.new) (sym s.opened)
            (lead_more sight follows (opened_shard opening k turn.old.opened) turn.old is.turns turn is.turned refl made);
      }

  -- the calls that are left are open
  pub turn_open : IsTurn sight follows turn → Opens turn.jobs → Opens turn.rest
  turn_open (inl h) o = open_back opening.table opening.about h.front (tickets_of turn.rest) (subst (AreSureTickets opening.table) h.split o)
  turn_open (inr (inl h)) o = (subst Opens h.split o).1
  turn_open (inr (inr h)) o = subst Opens (sym h.rest_is) (open_but opening.table opening.about h.job.ticket.ask.pass turn.jobs o)

  -- and fewer
  pub turn_fewer : IsTurn sight follows turn → length turn.rest < length turn.jobs
  turn_fewer (inl h) =
      let some = h.some in
      let all : length turn.jobs ≡ length h.front + length turn.rest = sym (length_tickets turn.jobs) ∙ ap length h.split ∙ length-append h.front (tickets_of turn.rest) ∙ ap (λ n. length h.front + n) (length_tickets turn.rest) in
      omega arith
  turn_fewer (inr (inl h)) = let all : length turn.jobs ≡ length (h.job ∷ turn.rest) = ap length h.split in omega arith
  turn_fewer (inr (inr h)) =
      let p = h.job.ticket.ask.pass in
      let left : length turn.rest ≡ length (jobs_but p h.others) = ap length (h.rest_is ∙ ap (jobs_but p) h.split ∙ but_first h.job h.others) in
      let few = length_but p h.others in
      let all : length turn.jobs ≡ length (h.job ∷ h.others) = ap length h.split in
      omega arith

  stepped_turned : (front : List Announced) → AreSureTickets opening.table front → turn.was ≡ [] → AreStepped sight (span_of turn) front → AreOfCalls opening.table turn.now
  stepped_turned front o none (inl made) = let more = settled_of turn.old.book front (moments (slots sight turn.new.log)) in
      subst (AreOfCalls opening.table) (sym (made.2 ∙ ap (λ (l : List Settled). l ++ more) none)) (settled_calls opening front (moments (slots sight turn.new.log)) o turn.old.book)
  stepped_turned front o none (inr lost) = let marked = marked_by turn.old.book (asks_of front) in let more = settled_of marked front (moments (slots sight turn.new.log)) in
      subst (AreOfCalls opening.table) (sym (lost.2 ∙ ap (λ (l : List Settled). l ++ more) none)) (settled_calls opening front (moments (slots sight turn.new.log)) o marked)

  alone_turned : Opens turn.jobs → turn.was ≡ [] → IsAlone sight follows turn → AreOfCalls opening.table turn.now
  alone_turned o none h =
      let mine = (subst Opens h.split o).0 in
      let is = h.applied.receipt_is in
      let ask = ap (λ (r : Received). r.step.ask) is in
      subst (AreOfCalls opening.table) (sym (h.settled ∙ ap (λ (l : List Settled). l ++ Answered h.reply h.receipt ∷ []) none)) (
        (ap (λ (r : Received). r.table) is ∙ mine.same_table, ap (λ (r : Received). r.step) is ∙ ap (λ (a : Ask). step_of a h.reply) (sym ask)),
        tt,
      )

  back_turned : Opens turn.jobs → turn.was ≡ [] → IsGivenBack turn → AreOfCalls opening.table turn.now
  back_turned o none h =
      let p = h.job.ticket.ask.pass in
      let by : jobs_by p turn.jobs ≡ h.job ∷ jobs_by p h.others = ap (jobs_by p) h.split ∙ by_first h.job h.others in
      let all = subst Opens by (open_by opening.table opening.about p turn.jobs o) in
      subst (AreOfCalls opening.table) (sym (h.settled ∙ (λ i. none i ++ given_back_of h.fault (tickets_of (by i))))) (refused_calls opening h.fault (tickets_of (h.job ∷ jobs_by p h.others)) all)

  -- what came of the calls
  pub turn_settled : IsTurn sight follows turn → Opens turn.jobs → turn.was ≡ [] → AreOfCalls opening.table turn.now
  turn_settled (inl h) o none = stepped_turned h.front (open_front opening.table opening.about h.front (tickets_of turn.rest) (subst (AreSureTickets opening.table) h.split o)) none h.applied.stepped
  turn_settled (inr (inl h)) o none = alone_turned o none h
  turn_settled (inr (inr h)) o none = back_turned o none h
