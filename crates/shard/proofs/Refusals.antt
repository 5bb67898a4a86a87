-- What stands of jobs while those of a pass are given back, and while the first of them are refused.
use Rattle.std.proofs.Common.{◌≡◌, ℕ, ◌+◌, ◌<◌, ◌≤◌, Bool, true, cond, List, [], ◌∷◌, ◌++◌, length, inl, refl, sym, ap, ◌∙◌, subst, append_assoc, append-nil, length-append, eq-eqb, ne_eqb, arith}
use Rattle.accept.specs.declared.limits.Limits.{Limits}
use Rattle.accept.specs.declared.call.Reply.{Reply}
use Rattle.accept.specs.declared.call.Reply.TheVariants.{Unavailable}
use Rattle.accept.specs.declared.history.Ask.{Ask}
use Rattle.accept.specs.declared.history.Item.TheVariants.{Answered}
use Rattle.disk.specs.Sight.{Sight}
use Rattle.wal.specs.declared.log.Wal.{Wal}
use Rattle.wal.specs.Logs.{Follow, slots}
use Rattle.history.specs.Histories.{HaveSteps, doubt_of, step_of}
use Rattle.history.specs.Handles.{Booked, Announced, Received, asks_of, longer}
use Rattle.streams.specs.Mapped.{Mapped}
use Rattle.shard.specs.declared.fault.ApplyFault.{ApplyFault}
use Rattle.shard.specs.declared.first_jobs.GroupEnd.TheVariants.{Most, Last}
use Rattle.shard.specs.declared.first_jobs.Job.{Job}
use Rattle.shard.specs.declared.group.Settled.{Settled}
use Rattle.shard.specs.declared.group.Settled.TheVariants as settled
use Rattle.shard.specs.declared.parts.Parts.{Parts}
use Rattle.shard.specs.Keeping.{moments, KeepsHistory}
use Rattle.shard.specs.Calls.{reply_in}
use Rattle.shard.specs.Shards.{IsShard}
use Rattle.shard.specs.Groups.{with_step, with_steps, MayLeaveAll}
use Rattle.shard.specs.Queues.{receipt_at, settled_of}
use Rattle.shard.specs.Jobs.{max_turn, tickets_of, jobs_by, jobs_but}
use Rattle.shard.specs.Parts.{seen_of, ArePartsOf}
use Rattle.shard.specs.Turns.{AreApplied, AreTogether, given_back_of, AreReady}
use Rattle.shard.proofs.Slots.{IsClocked, no_time, none_yet}
use Rattle.shard.proofs.Replies.{refused_after}
use Rattle.shard.proofs.Shards.{shard_answered, kept_step}
use Rattle.shard.proofs.Applied.{since_now}
use Rattle.shard.proofs.Groups.{turn_first}
use Rattle.shard.proofs.Turning.{ready_step, length_tickets}

-- The jobs of a pass are given back.

by_mine : (p : ℕ) (j : Job) (jobs : List Job) → p ≡ j.ticket.ask.pass → jobs_by p (j ∷ jobs) ≡ j ∷ jobs_by p jobs
by_mine p j jobs e = ap (λ (b : Bool). cond b (j ∷ jobs_by p jobs) (jobs_by p jobs)) (eq-eqb p j.ticket.ask.pass e)

but_mine : (p : ℕ) (j : Job) (jobs : List Job) → p ≡ j.ticket.ask.pass → jobs_but p (j ∷ jobs) ≡ jobs_but p jobs
but_mine p j jobs e = ap (λ (b : Bool). cond b (jobs_but p jobs) (j ∷ jobs_but p jobs)) (eq-eqb p j.ticket.ask.pass e)

by_other : (p : ℕ) (j : Job) (jobs : List Job) → ¬ (p ≡ j.ticket.ask.pass) → jobs_by p (j ∷ jobs) ≡ jobs_by p jobs
by_other p j jobs n = ap (λ (b : Bool). cond b (j ∷ jobs_by p jobs) (jobs_by p jobs)) (ne_eqb p j.ticket.ask.pass n)

but_other : (p : ℕ) (j : Job) (jobs : List Job) → ¬ (p ≡ j.ticket.ask.pass) → jobs_but p (j ∷ jobs) ≡ j ∷ jobs_but p jobs
but_other p j jobs n = ap (λ (b : Bool). cond b (jobs_but p jobs) (j ∷ jobs_but p jobs)) (ne_eqb p j.ticket.ask.pass n)

same_head : (i j : Job) (xs ys : List Job) → i ∷ xs ≡ j ∷ ys → i ≡ j
same_head i j xs ys e = cc

same_tail : (i j : Job) (xs ys : List Job) → i ∷ xs ≡ j ∷ ys → xs ≡ ys
same_tail i j xs ys e = cc

-- Some of the jobs were looked at. The others are in front of those that stay.
pub record ArePartly (fault : ApplyFault) (p : ℕ) (start : List Job) (was : List Settled) (count n : ℕ) (jobs : List Job) (now : List Settled) : Type 0 where
  pub todo : List Job
  pub stay : List Job
  pub left : length todo + n ≡ count
  pub jobs_are : jobs ≡ todo ++ stay
  pub kept : stay ++ jobs_but p todo ≡ jobs_but p start
  pub given : now ++ given_back_of fault (tickets_of (jobs_by p todo)) ≡ was ++ given_back_of fault (tickets_of (jobs_by p start))

mine_next : (fault : ApplyFault) (p : ℕ) (start : List Job) (was : List Settled) (count n : ℕ) (todo stay jobs rest : List Job) (j : Job) (now pushed : List Settled)
    → length todo + n ≡ count → jobs ≡ todo ++ stay → stay ++ jobs_but p todo ≡ jobs_but p start
    → now ++ given_back_of fault (tickets_of (jobs_by p todo)) ≡ was ++ given_back_of fault (tickets_of (jobs_by p start))
    → n < count → jobs ≡ j ∷ rest → p ≡ j.ticket.ask.pass → pushed ≡ now ++ settled.GivenBack fault j.ticket ∷ [] → ArePartly fault p start was count (n + 1) rest pushed
mine_next fault p start was count n [] stay jobs rest j now pushed left is kept given more popped mine pushed_is = absurd (omega arith)
mine_next fault p start was count n (t ∷ todo) stay jobs rest j now pushed left is kept given more popped mine pushed_is =
    let split : j ∷ rest ≡ t ∷ (todo ++ stay) = sym popped ∙ is in
    let head : j ≡ t = same_head j t rest (todo ++ stay) split in
    let own : p ≡ t.ticket.ask.pass = mine ∙ ap (λ (i : Job). i.ticket.ask.pass) head in
    let back = given_back_of fault (tickets_of (jobs_by p todo)) in
    record {
      todo = todo;
      stay = stay;
      left = omega arith;
      jobs_are = same_tail j t rest (todo ++ stay) split;
      kept = ap (λ (l : List Job). stay ++ l) (sym (but_mine p t todo own)) ∙ kept;
      given = ap (λ (l : List Settled). l ++ back) pushed_is
          ∙ (append_assoc now (settled.GivenBack fault j.ticket ∷ []) back
          ∙ (ap (λ (i : Job). now ++ settled.GivenBack fault i.ticket ∷ back) head
          ∙ (ap (λ (l : List Job). now ++ given_back_of fault (tickets_of l)) (sym (by_mine p t todo own))
          ∙ given)));
    }

-- the next is of the pass
pub partly_mine : (fault : ApplyFault) (p : ℕ) (start : List Job) (was : List Settled) (count n : ℕ) (jobs rest : List Job) (j : Job) (now pushed : List Settled) → ArePartly fault p start was count n jobs now
    → n < count → jobs ≡ j ∷ rest → p ≡ j.ticket.ask.pass → pushed ≡ now ++ settled.GivenBack fault j.ticket ∷ [] → ArePartly fault p start was count (n + 1) rest pushed
partly_mine fault p start was count n jobs rest j now pushed h more popped mine pushed_is =
    mine_next fault p start was count n h.todo h.stay jobs rest j now pushed h.left h.jobs_are h.kept h.given more popped mine pushed_is

other_next : (fault : ApplyFault) (p : ℕ) (start : List Job) (was : List Settled) (count n : ℕ) (todo stay jobs rest pushed : List Job) (j : Job) (now : List Settled)
    → length todo + n ≡ count → jobs ≡ todo ++ stay → stay ++ jobs_but p todo ≡ jobs_but p start
    → now ++ given_back_of fault (tickets_of (jobs_by p todo)) ≡ was ++ given_back_of fault (tickets_of (jobs_by p start))
    → n < count → jobs ≡ j ∷ rest → ¬ (p ≡ j.ticket.ask.pass) → pushed ≡ rest ++ j ∷ [] → ArePartly fault p start was count (n + 1) pushed now
other_next fault p start was count n [] stay jobs rest pushed j now left is kept given more popped other pushed_is = absurd (omega arith)
other_next fault p start was count n (t ∷ todo) stay jobs rest pushed j now left is kept given more popped other pushed_is =
    let split : j ∷ rest ≡ t ∷ (todo ++ stay) = sym popped ∙ is in
    let head : j ≡ t = same_head j t rest (todo ++ stay) split in
    let tail : rest ≡ todo ++ stay = same_tail j t rest (todo ++ stay) split in
    let foreign : ¬ (p ≡ t.ticket.ask.pass) = subst (λ (i : Job). ¬ (p ≡ i.ticket.ask.pass)) head other in
    record {
      todo = todo;
      stay = stay ++ t ∷ [];
      left = omega arith;
      jobs_are = pushed_is ∙ ((λ i. tail i ++ head i ∷ []) ∙ append_assoc todo stay (t ∷ []));
      kept = append_assoc stay (t ∷ []) (jobs_but p todo) ∙ (ap (λ (l : List Job). stay ++ l) (sym (but_other p t todo foreign)) ∙ kept);
      given = ap (λ (l : List Job). now ++ given_back_of fault (tickets_of l)) (sym (by_other p t todo foreign)) ∙ given;
    }

-- the next is of another pass
pub partly_other : (fault : ApplyFault) (p : ℕ) (start : List Job) (was : List Settled) (count n : ℕ) (jobs rest pushed : List Job) (j : Job) (now : List Settled) → ArePartly fault p start was count n jobs now
    → n < count → jobs ≡ j ∷ rest → ¬ (p ≡ j.ticket.ask.pass) → pushed ≡ rest ++ j ∷ [] → ArePartly fault p start was count (n + 1) pushed now
partly_other fault p start was count n jobs rest pushed j now h more popped other pushed_is =
    other_next fault p start was count n h.todo h.stay jobs rest pushed j now h.left h.jobs_are h.kept h.given more popped other pushed_is

-- none was looked at
pub partly_first : (fault : ApplyFault) (p : ℕ) (start : List Job) (was : List Settled) (count : ℕ) → length start ≡ count → ArePartly fault p start was count 0 start was
partly_first fault p start was count long = record { todo = start; stay = []; left = omega (arith, long); jobs_are = sym (append-nil start); kept = refl; given = refl }

all_next : (fault : ApplyFault) (p : ℕ) (start : List Job) (was : List Settled) (count n : ℕ) (todo stay jobs : List Job) (now : List Settled)
    → length todo + n ≡ count → jobs ≡ todo ++ stay → stay ++ jobs_but p todo ≡ jobs_but p start
    → now ++ given_back_of fault (tickets_of (jobs_by p todo)) ≡ was ++ given_back_of fault (tickets_of (jobs_by p start))
    → count ≤ n → (now ≡ was ++ given_back_of fault (tickets_of (jobs_by p start))) × (jobs ≡ jobs_but p start)
all_next fault p start was count n [] stay jobs now left is kept given all = (sym (append-nil now) ∙ given, is ∙ (sym (append-nil stay) ∙ kept))
all_next fault p start was count n (t ∷ todo) stay jobs now left is kept given all = absurd (omega arith)

-- all were looked at
pub partly_all : (fault : ApplyFault) (p : ℕ) (start : List Job) (was : List Settled) (count n : ℕ) (jobs : List Job) (now : List Settled) → ArePartly fault p start was count n jobs now
    → count ≤ n → (now ≡ was ++ given_back_of fault (tickets_of (jobs_by p start))) × (jobs ≡ jobs_but p start)
partly_all fault p start was count n jobs now h all = all_next fault p start was count n h.todo h.stay jobs now h.left h.jobs_are h.kept h.given all

-- The first jobs are refused.

pub none_left : (jobs : List Job) → length jobs ≡ 0 → jobs ≡ []
none_left [] none = refl
none_left (j ∷ jobs) none = absurd (omega arith)

asks_last : (ts : List Announced) (t : Announced) → asks_of (ts ++ t ∷ []) ≡ asks_of ts ++ t.ask ∷ []
asks_last [] t = refl
asks_last (s ∷ ts) t = ap (λ (l : List Ask). s.ask ∷ l) (asks_last ts t)

steps_last : (book : Booked) (asks : List Ask) (a : Ask) → with_steps book (asks ++ a ∷ []) ≡ with_step (with_steps book asks) a
steps_last book [] a = refl
steps_last book (b ∷ asks) a = steps_last (with_step book b) asks a

abbrev answered_in : Booked → Announced → ℕ × ℕ → Settled
answered_in book t moment = settled.Answered (reply_in book t.ask.call) (receipt_at (with_step book t.ask).items t (reply_in book t.ask.call) moment)

settled_last : (book : Booked) (ts : List Announced) (t : Announced) (moment : ℕ × ℕ) → settled_of book (ts ++ t ∷ []) moment ≡ settled_of book ts moment ++ answered_in (with_steps book (asks_of ts)) t moment ∷ []
settled_last book [] t moment = refl
settled_last book (s ∷ ts) t moment = ap (λ (l : List Settled). answered_in book s moment ∷ l) (settled_last (with_step book s.ask) ts t moment)

-- after a mark a call leaves a shard as it is, but for its step
pub refused_shard : {D : Type 0} (sight : D → Sight) (follows : D → Type 0) (log : Wal D) (book : Booked) (opened : Wal D) (states : Mapped) (flag : Bool) (limits : Limits) (ask : Ask)
    → IsShard sight follows log book opened states flag limits → flag ≡ true → IsShard sight follows log (longer book (Answered (step_of ask Unavailable))) opened states flag limits
refused_shard sight follows log book opened states flag limits ask s marked =
    let none = refused_after book ask Unavailable (sym s.marked ∙ marked) refl in
    shard_answered sight follows log book opened states flag limits ask Unavailable s none.same

pub refused_kept : {D : Type 0} (sight : D → Sight) (follows : D → Type 0) (log : Wal D) (book : Booked) (opened : Wal D) (states : Mapped) (flag : Bool) (limits : Limits) (ask : Ask)
    → IsShard sight follows log book opened states flag limits → flag ≡ true → Follow follows log → KeepsHistory (slots sight log) (longer book (Answered (step_of ask Unavailable))) (doubt_of book.items)
refused_kept sight follows log book opened states flag limits ask s marked =
    kept_step sight follows log book opened states flag limits ask Unavailable (refused_shard sight follows log book opened states flag limits ask s marked)

pub refused_step : (book new : Booked) (ask : Ask) → Unavailable ≡ reply_in book ask.call → new ≡ longer book (Answered (step_of ask Unavailable)) → new ≡ with_step book ask
refused_step book new ask due is = is ∙ ap (λ (r : Reply). longer book (Answered (step_of ask r))) due

pub refused_settled : (book new : Booked) (t : Announced) (r : Reply) (receipt : Received) (moment : ℕ × ℕ) → Unavailable ≡ reply_in book t.ask.call → new ≡ longer book (Answered (step_of t.ask Unavailable))
    → r ≡ Unavailable → receipt ≡ receipt_at new.items t Unavailable moment → settled.Answered r receipt ≡ answered_in book t moment
refused_settled book new t r receipt moment due is replied receipt_is =
    let stepped = refused_step book new t.ask due is in
    (λ i. settled.Answered (replied i) (receipt_is i)) ∙ (λ i. settled.Answered (due i) (receipt_at (stepped i).items t (due i) moment))

-- The first jobs have their steps, and were settled.
pub record IsRefusing {D : Type 0} (sight : D → Sight) (follows : D → Type 0) (start : Parts D) (all : List Job) (was : List Settled) (p : Parts D) (jobs : List Job) (now : List Settled) (n : ℕ) : Type 0 where
  pub front : List Announced
  pub count : length front ≡ n
  pub split : tickets_of all ≡ front ++ tickets_of jobs
  pub parts_are : p ≡ record start { book = with_steps start.book (asks_of front) }
  pub settled_are : now ≡ was ++ settled_of start.book front (moments (slots sight start.log.wal))
  pub parts : ArePartsOf sight follows p
  pub marked : p.is_marked ≡ true
  pub ready : AreReady p.book jobs

module _ {D : Type 0} (sight : D → Sight) (follows : D → Type 0) (start : Parts D) (all : List Job) (was : List Settled) where
  -- the next of them may be refused
  pub refusing_ready : (p : Parts D) (jobs rest : List Job) (now : List Settled) (n : ℕ) (j : Job) → IsRefusing sight follows start all was p jobs now n → jobs ≡ j ∷ rest → AreReady p.book (j ∷ rest)
  refusing_ready p jobs rest now n j h popped = subst (λ (l : List Job). AreReady p.book l) popped h.ready

  pub refusing_order : (p : Parts D) (jobs rest : List Job) (now : List Settled) (n : ℕ) (j : Job) → IsRefusing sight follows start all was p jobs now n → jobs ≡ j ∷ rest → HaveSteps j.ticket.before p.book.items
  refusing_order p jobs rest now n j h popped = turn_first j.ticket.before p.book.items (refusing_ready p jobs rest now n j h popped).turn.0

  -- and then is
  pub refusing_next : (p new : Parts D) (jobs rest : List Job) (now pushed : List Settled) (n : ℕ) (j : Job) (v : Settled) → IsRefusing sight follows start all was p jobs now n
      → jobs ≡ j ∷ rest → ArePartsOf sight follows new → new ≡ record p { book = with_step p.book j.ticket.ask }
      → v ≡ answered_in p.book j.ticket (moments (slots sight p.log.wal)) → pushed ≡ now ++ v ∷ []
      → IsRefusing sight follows start all was new rest pushed (n + 1)
  refusing_next p new jobs rest now pushed n j v h popped parts new_is v_is pushed_is =
      let t = j.ticket in
      let asks = asks_of h.front in
      let at = moments (slots sight start.log.wal) in
      let steps : with_step (with_steps start.book asks) t.ask ≡ with_steps start.book (asks_of (h.front ++ t ∷ [])) =
      sym (steps_last start.book asks t.ask) ∙ ap (λ (l : List Ask). with_steps start.book l) (sym (asks_last h.front t)) in
      let same : v ≡ answered_in (with_steps start.book asks) t at = v_is ∙ ap (λ (q : Parts D). answered_in q.book t (moments (slots sight q.log.wal))) h.parts_are in
      record {
        front = h.front ++ t ∷ [];
        count = omega (arith, h.count, length-append h.front (t ∷ []));
        split = h.split ∙ (ap (λ (l : List Job). h.front ++ tickets_of l) popped ∙ sym (append_assoc h.front (t ∷ []) (tickets_of rest)));
        parts_are = new_is ∙ (ap (λ (q : Parts D). record q { book = with_step q.book t.ask }) h.parts_are ∙ ap (λ (b : Booked). record start { book = b }) steps);
        settled_are = pushed_is
            ∙ ((λ i. h.settled_are i ++ same i ∷ [])
            ∙ (append_assoc was (settled_of start.book h.front at) (answered_in (with_steps start.book asks) t at ∷ [])
            ∙ ap (λ (l : List Settled). was ++ l) (sym (settled_last start.book h.front t at))));
        parts = parts;
        marked = ap (λ (q : Parts D). q.is_marked) new_is ∙ h.marked;
        ready = subst (λ (q : Parts D). AreReady q.book rest) (sym new_is) (ready_step p.book j rest (reply_in p.book t.ask.call) (refusing_ready p jobs rest now n j h popped));
      }

  -- what they make of the shard
  refused_applied : IsClocked sight follows → ArePartsOf sight follows start → (p : Parts D) (front : List Announced) (now : List Settled) → ArePartsOf sight follows p
      → p ≡ record start { book = with_steps start.book (asks_of front) } → now ≡ was ++ settled_of start.book front (moments (slots sight start.log.wal))
      → AreApplied sight follows (record { old = seen_of start; new = seen_of p; was = was; now = now }) front
  refused_applied clocked before p front now parts is settled_are =
      let log = start.log.wal in
      let book = start.book in
      let last = with_steps book (asks_of front) in
      let opened = start.opened.value in
      let behind : IsShard sight follows log last opened start.states start.is_marked start.limits = subst (λ (q : Parts D). ArePartsOf sight follows q) is parts in
      subst (λ (q : Parts D). AreApplied sight follows (record { old = seen_of start; new = seen_of q; was = was; now = now }) front) (sym is) (record {
        stepped = inl (none_yet (slots sight log), refl, settled_are);
        quiet = λ _. refl;
        before = λ f. f;
        any_moment = λ f. no_time (slots sight log) (MayLeaveAll book (asks_of front))
            (λ a b x y. inl (since_now sight follows clocked log book opened start.states start.is_marked start.limits before f a b x y));
        since = since_now sight follows clocked log last opened start.states start.is_marked start.limits behind;
        appended = refl;
        opened = refl;
      })

  -- 64 of them were refused
  pub refused_most : IsClocked sight follows → ArePartsOf sight follows start → (p : Parts D) (jobs : List Job) (now : List Settled) (n : ℕ) → IsRefusing sight follows start all was p jobs now n → n ≡ max_turn
      → AreTogether sight follows (record { old = seen_of start; new = seen_of p; jobs = all; rest = jobs; was = was; now = now; ended = Most })
  refused_most clocked before p jobs now n h most = record {
    front = h.front;
    some = omega (arith, h.count, most);
    few = omega (arith, h.count, most);
    split = h.split;
    applied = refused_applied clocked before p h.front now h.parts h.parts_are h.settled_are;
    ends = h.count ∙ most;
  }

  -- none is left
  pub refused_last : IsClocked sight follows → ArePartsOf sight follows start → 0 < length all → (p : Parts D) (jobs rest : List Job) (now : List Settled) (n : ℕ) → IsRefusing sight follows start all was p jobs now n
      → n ≤ max_turn → jobs ≡ [] → rest ≡ [] → AreTogether sight follows (record { old = seen_of start; new = seen_of p; jobs = all; rest = rest; was = was; now = now; ended = Last })
  refused_last clocked before more p jobs rest now n h few none empty = record {
    front = h.front;
    some = omega (arith, more, length_tickets all, ap length h.split, length-append h.front (tickets_of jobs), ap (λ (l : List Job). length (tickets_of l)) none);
    few = omega (arith, h.count, few);
    split = h.split ∙ ap (λ (l : List Job). h.front ++ tickets_of l) (none ∙ sym empty);
    applied = refused_applied clocked before p h.front now h.parts h.parts_are h.settled_are;
    ends = empty;
  }
