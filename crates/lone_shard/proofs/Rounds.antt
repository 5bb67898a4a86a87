-- What stands of open calls when one is announced, when some are made, and when one is taken in.
use Rattle.std.proofs.Common.{◌≡◌, ◌⊎◌, ◌<◌, ◌+◌, ℕ, suc, Bool, true, false, cond, eqb, List, [], ◌∷◌, ◌++◌, length, inl, inr, refl, sym, ap, ◌∙◌, subst, append_assoc, append-nil, eq-eqb, arith}
use Rattle.atomic_table.specs.Seated.{TableId}
use Rattle.accept.specs.declared.call.Call.{Call}
use Rattle.accept.specs.Calls.{AreNumbers}
use Rattle.accept.specs.declared.history.Ask.{Ask}
use Rattle.accept.specs.declared.history.Item.{Item}
use Rattle.disk.specs.Sight.{Sight}
use Rattle.history.specs.declared.views.About.{About}
use Rattle.history.specs.declared.views.Caller.{Caller}
use Rattle.history.specs.Histories.{IsAmong, asks_on, of_pass, shard_in}
use Rattle.history.specs.Plays.{IsRested, ask_of, before_of, announce_to}
use Rattle.history.specs.Handles.{Announced, Booked, Passed, Received, AreOf, asks_of}
use Rattle.history.proofs.Sharding.{shard_below}
use Rattle.shard.specs.declared.fault.ApplyFault.{ApplyFault}
use Rattle.shard.specs.declared.first_jobs.Job.{Job}
use Rattle.shard.specs.declared.group.Settled.{Settled}
use Rattle.shard.specs.declared.group.Settled.TheVariants.{Answered, GivenBack}
use Rattle.shard.specs.Groups.{HaveStepsOr, with_step}
use Rattle.shard.specs.Jobs.{tickets_of, jobs_by, jobs_but, AreLawful, AreInPassTurn}
use Rattle.shard.specs.Queues.{settled_of}
use Rattle.shard.specs.Shards.{Sharded}
use Rattle.shard.specs.Turns.{Turn, span_of, AreReady, AreStepped, IsAlone, IsGivenBack, IsTurn, given_back_of}
use Rattle.shard.proofs.Turning.{of_both}
use Rattle.lone_shard.proofs.Books.{alone_same}
use Rattle.lone_shard.specs.Rounds.{asks_settled, AreOwn, AreSettled, IsOpenRound}

-- Lists.

tickets_more : (jobs : List Job) (j : Job) → tickets_of (jobs ++ j ∷ []) ≡ tickets_of jobs ++ j.ticket ∷ []
tickets_more [] j = refl
tickets_more (i ∷ jobs) j = ap (λ (l : List Announced). i.ticket ∷ l) (tickets_more jobs j)

asks_both : (ts us : List Announced) → asks_of (ts ++ us) ≡ asks_of ts ++ asks_of us
asks_both [] us = refl
asks_both (t ∷ ts) us = ap (λ (l : List Ask). t.ask ∷ l) (asks_both ts us)

asks_length : (jobs : List Job) → length (asks_of (tickets_of jobs)) ≡ length jobs
asks_length [] = refl
asks_length (j ∷ jobs) = ap suc (asks_length jobs)

settled_both : (ss us : List Settled) → asks_settled (ss ++ us) ≡ asks_settled ss ++ asks_settled us
settled_both [] us = refl
settled_both (Answered reply receipt ∷ ss) us = ap (λ (l : List Ask). receipt.step.ask ∷ l) (settled_both ss us)
settled_both (GivenBack fault t ∷ ss) us = ap (λ (l : List Ask). t.ask ∷ l) (settled_both ss us)

own_both : (table : TableId) (p : ℕ) (ts us : List Announced) → AreOwn table p ts → AreOwn table p us → AreOwn table p (ts ++ us)
own_both table p [] us h k = k
own_both table p (t ∷ ts) us h k = (h.0, own_both table p ts us h.1 k)

own_front : (table : TableId) (p : ℕ) (ts us : List Announced) → AreOwn table p (ts ++ us) → AreOwn table p ts
own_front table p [] us h = tt
own_front table p (t ∷ ts) us h = (h.0, own_front table p ts us h.1)

own_rest : (table : TableId) (p : ℕ) (ts us : List Announced) → AreOwn table p (ts ++ us) → AreOwn table p us
own_rest table p [] us h = h
own_rest table p (t ∷ ts) us h = own_rest table p ts us h.1

settled_own_both : (table : TableId) (p : ℕ) (ss us : List Settled) → AreSettled table p ss → AreSettled table p us → AreSettled table p (ss ++ us)
settled_own_both table p [] us h k = k
settled_own_both table p (Answered reply receipt ∷ ss) us h k = (h.0, settled_own_both table p ss us h.1 k)
settled_own_both table p (GivenBack fault t ∷ ss) us h k = (h.0, settled_own_both table p ss us h.1 k)

lawful_both : (about : About) (k : ℕ) (js ks : List Job) → AreLawful about k js → AreLawful about k ks → AreLawful about k (js ++ ks)
lawful_both about k [] ks h l = l
lawful_both about k (j ∷ js) ks h l = (h.0, h.1, h.2, lawful_both about k js ks h.3 l)

pub no_settled : (ss : List Settled) → length ss ≡ 0 → ss ≡ []
no_settled [] h = refl
no_settled (s ∷ ss) h = absurd (omega (arith, h))

-- A call is announced.

pub only_shard : (about : About) (a : Ask) → about.shards ≡ 1 → shard_in about a ≡ 0
only_shard about a one =
    let below : shard_in about a < 1 = subst (λ n. shard_in about a < n) one (shard_below about a (omega (arith, one))) in
    omega arith

among_here : (a : Ask) (front xs : List Ask) → IsAmong a (front ++ a ∷ xs)
among_here a [] xs = inl refl
among_here a (b ∷ front) xs = inr (among_here a front xs)

on_cond : (b : Bool) (a : Ask) (rest : List Ask) (items : List Item) (all : List Ask) → IsAmong a all → HaveStepsOr rest items all → HaveStepsOr (cond b (a ∷ rest) rest) items all
on_cond true a rest items all m h = (inr m, h)
on_cond false a rest items all m h = h

asks_on_or : (about : About) (k : ℕ) (items : List Item) (front xs : List Ask) → HaveStepsOr (asks_on about k xs) items (front ++ xs)
asks_on_or about k items front [] = tt
asks_on_or about k items front (a ∷ xs) =
    on_cond (eqb k (shard_in about a)) a (asks_on about k xs) items (front ++ a ∷ xs) (among_here a front xs)
    (subst (λ (l : List Ask). HaveStepsOr (asks_on about k xs) items l) (append_assoc front (a ∷ []) xs) (asks_on_or about k items (front ++ a ∷ []) xs))

own_by : (table : TableId) (p : ℕ) (ts : List Announced) → AreOwn table p ts → of_pass p (asks_of ts) ≡ asks_of ts
own_by table p [] h = refl
own_by table p (t ∷ ts) h =
    let rest = of_pass p (asks_of ts) in
    ap (λ (b : Bool). cond b (t.ask ∷ rest) rest) (eq-eqb p t.ask.pass (sym h.0.1)) ∙ ap (λ (l : List Ask). t.ask ∷ l) (own_by table p ts h.1)

pass_turn_last : (items : List Item) (front : List Ask) (ts : List Announced) (t : Announced) → AreInPassTurn items front ts → HaveStepsOr t.before items (of_pass t.ask.pass (front ++ asks_of ts)) → AreInPassTurn items front (ts ++ t ∷ [])
pass_turn_last items front [] t h last = (subst (λ (l : List Ask). HaveStepsOr t.before items (of_pass t.ask.pass l)) (append-nil front) last, tt)
pass_turn_last items front (s ∷ ts) t h last =
    (h.0, pass_turn_last items (front ++ s.ask ∷ []) ts t h.1 (subst (λ (l : List Ask). HaveStepsOr t.before items (of_pass t.ask.pass l)) (sym (append_assoc front (s.ask ∷ []) (asks_of ts))) last))

pub nothing_settled : (table : TableId) (book : Booked) (pass : Passed) (jobs : List Job) (settled : List Settled) → IsOpenRound table book pass jobs settled → settled ≡ [] → pass.caller.pending ≡ asks_of (tickets_of jobs)
nothing_settled table book pass jobs settled h none = h.pending ∙ ap (λ (ss : List Settled). asks_settled ss ++ asks_of (tickets_of jobs)) none

-- so there are as many open calls as jobs
pub few_open : (table : TableId) (book : Booked) (pass : Passed) (jobs : List Job) (settled : List Settled) → IsOpenRound table book pass jobs settled → settled ≡ [] → length pass.caller.pending ≡ length jobs
few_open table book pass jobs settled h none = ap length (nothing_settled table book pass jobs settled h none) ∙ asks_length jobs

own_turn : (table : TableId) (c : Caller) (call : Call) (items : List Item) (ts : List Announced) (t : Announced) → t ≡ record { table = table; ask = ask_of c (c.last + 1) call; doubted = false; before = before_of c (c.last + 1) call }
    → c.pending ≡ asks_of ts → AreOwn table c.pass ts → HaveStepsOr t.before items (of_pass t.ask.pass (asks_of ts))
own_turn table c call items ts t is pending own =
    let k : ℕ = shard_in c.about (ask_of c (c.last + 1) call) in
    let same : asks_on c.about k (asks_of ts) ≡ t.before = ap (λ (l : List Ask). asks_on c.about k l) (sym pending) ∙ sym (ap (λ (u : Announced). u.before) is) in
    let by : asks_of ts ≡ of_pass t.ask.pass (asks_of ts) = sym (own_by table c.pass ts own) ∙ ap (λ (u : Announced). of_pass u.ask.pass (asks_of ts)) (sym is) in
    subst (λ (l : List Ask). HaveStepsOr t.before items l) by
    (subst (λ (l : List Ask). HaveStepsOr l items (asks_of ts)) same (asks_on_or c.about k items [] (asks_of ts)))

pub ready_more : (book : Booked) (jobs : List Job) (t : Announced) (call : Call) → AreReady book jobs → t.table ≡ book.table → shard_in book.about t.ask ≡ book.shard → t.ask.call ≡ call → AreNumbers call
    → HaveStepsOr t.before book.items (of_pass t.ask.pass (asks_of (tickets_of jobs))) → AreReady book (jobs ++ record { ticket = t; call = call } ∷ [])
ready_more book jobs t call ready table here is numbers turn =
    let j : Job = record { ticket = t; call = call } in
    let more : tickets_of jobs ++ t ∷ [] ≡ tickets_of (jobs ++ j ∷ []) = sym (tickets_more jobs j) in
    record {
      of_book = subst (λ (l : List Announced). AreOf book l) more (of_both book (tickets_of jobs) (t ∷ []) ready.of_book (table, here, tt));
      lawful = lawful_both book.about book.shard jobs (j ∷ []) ready.lawful (here, is, numbers, tt);
      turn = subst (λ (l : List Announced). AreInPassTurn book.items [] l) more (pass_turn_last book.items [] (tickets_of jobs) t ready.turn turn);
    }

still_rested : (c : Caller) (n : ℕ) (call : Call) → (c.pending ≡ []) ⊎ IsRested c → (c.pending ≡ [] → IsRested c) → IsRested (announce_to c n call)
still_rested c n call (inl idle) f = f idle
still_rested c n call (inr r) f = r

open_next : (table : TableId) (book : Booked) (pass : Passed) (jobs : List Job) (settled : List Settled) (call : Call) (t : Announced) → IsOpenRound table book pass jobs settled → settled ≡ [] → AreNumbers call
    → t ≡ record { table = table; ask = ask_of pass.caller (pass.caller.last + 1) call; doubted = false; before = before_of pass.caller (pass.caller.last + 1) call }
    → (pass.caller.pending ≡ [] → IsRested pass.caller)
    → IsOpenRound table book (record pass { caller = announce_to pass.caller (pass.caller.last + 1) call }) (jobs ++ record { ticket = t; call = call } ∷ []) settled
open_next table book pass jobs settled call t h none numbers is rested =
    let c = pass.caller in
    let a : Ask = ask_of c (c.last + 1) call in
    let j : Job = record { ticket = t; call = call } in
    let ask_is : t.ask ≡ a = ap (λ (u : Announced). u.ask) is in
    let table_is : t.table ≡ table = ap (λ (u : Announced). u.table) is in
    let more : tickets_of jobs ++ t ∷ [] ≡ tickets_of (jobs ++ j ∷ []) = sym (tickets_more jobs j) in
    record {
      book_table = h.book_table;
      pass_table = h.pass_table;
      one = h.one;
      only = h.only;
      pass_one = h.pass_one;
      pending = ap (λ (l : List Ask). l ++ a ∷ []) h.pending
          ∙ (append_assoc (asks_settled settled) (asks_of (tickets_of jobs)) (a ∷ [])
          ∙ ap (λ (l : List Ask). asks_settled settled ++ l)
          (ap (λ (b : Ask). asks_of (tickets_of jobs) ++ b ∷ []) (sym ask_is)
          ∙ (sym (asks_both (tickets_of jobs) (t ∷ [])) ∙ ap asks_of more)));
      rested = inr (still_rested c (c.last + 1) call h.rested rested);
      own = subst (λ (l : List Announced). AreOwn table c.pass l) more
          (own_both table c.pass (tickets_of jobs) (t ∷ []) h.own ((table_is, ap (λ (b : Ask). b.pass) ask_is, ap (λ (u : Announced). u.doubted) is), tt));
      settled_own = h.settled_own;
      ready = ready_more book jobs t call h.ready (table_is ∙ sym h.book_table) (only_shard book.about t.ask h.one ∙ sym h.only) (ap (λ (b : Ask). b.call) ask_is) numbers
          (own_turn table c call book.items (tickets_of jobs) t is (nothing_settled table book pass jobs settled h none) h.own);
    }

-- the call is the last job
pub open_more : (table : TableId) (book : Booked) (pass next : Passed) (jobs put : List Job) (settled : List Settled) (call : Call) (t : Announced) → IsOpenRound table book pass jobs settled → settled ≡ [] → AreNumbers call
    → t ≡ record { table = table; ask = ask_of pass.caller (pass.caller.last + 1) call; doubted = false; before = before_of pass.caller (pass.caller.last + 1) call }
    → (pass.caller.pending ≡ [] → IsRested pass.caller)
    → next ≡ record pass { caller = announce_to pass.caller (pass.caller.last + 1) call } → put ≡ jobs ++ record { ticket = t; call = call } ∷ []
    → IsOpenRound table book next put settled
open_more table book pass next jobs put settled call t h none numbers is rested next_is put_is =
    subst (λ (z : Passed × List Job). IsOpenRound table book z.0 z.1 settled) (λ i. (sym next_is i, sym put_is i)) (open_next table book pass jobs settled call t h none numbers is rested)

-- Some are made.

settled_asks : (book : Booked) (ts : List Announced) (moment : ℕ × ℕ) → asks_settled (settled_of book ts moment) ≡ asks_of ts
settled_asks book [] moment = refl
settled_asks book (t ∷ ts) moment = ap (λ (l : List Ask). t.ask ∷ l) (settled_asks (with_step book t.ask) ts moment)

settled_own : (book : Booked) (ts : List Announced) (moment : ℕ × ℕ) (table : TableId) (p : ℕ) → AreOwn table p ts → AreSettled table p (settled_of book ts moment)
settled_own book [] moment table p h = tt
settled_own book (t ∷ ts) moment table p h = ((h.0.0, h.0.1), settled_own (with_step book t.ask) ts moment table p h.1)

refused_asks : (fault : ApplyFault) (ts : List Announced) → asks_settled (given_back_of fault ts) ≡ asks_of ts
refused_asks fault [] = refl
refused_asks fault (t ∷ ts) = ap (λ (l : List Ask). t.ask ∷ l) (refused_asks fault ts)

refused_own : (fault : ApplyFault) (ts : List Announced) (table : TableId) (p : ℕ) → AreOwn table p ts → AreSettled table p (given_back_of fault ts)
refused_own fault [] table p h = tt
refused_own fault (t ∷ ts) table p h = (h.0, refused_own fault ts table p h.1)

all_by : (table : TableId) (p : ℕ) (jobs : List Job) → AreOwn table p (tickets_of jobs) → jobs_by p jobs ≡ jobs
all_by table p [] h = refl
all_by table p (j ∷ jobs) h =
    let rest = jobs_by p jobs in
    ap (λ (b : Bool). cond b (j ∷ rest) rest) (eq-eqb p j.ticket.ask.pass (sym h.0.1)) ∙ ap (λ (l : List Job). j ∷ l) (all_by table p jobs h.1)

none_but : (table : TableId) (p : ℕ) (jobs : List Job) → AreOwn table p (tickets_of jobs) → jobs_but p jobs ≡ []
none_but table p [] h = refl
none_but table p (j ∷ jobs) h =
    let rest = jobs_but p jobs in
    ap (λ (b : Bool). cond b rest (j ∷ rest)) (eq-eqb p j.ticket.ask.pass (sym h.0.1)) ∙ none_but table p jobs h.1

-- these calls are settled now, in their order
record HasGone (table : TableId) (p : ℕ) (old new : Booked) (jobs rest : List Job) (was now : List Settled) : Type 0 where
  pub gone : List Announced
  pub split : tickets_of jobs ≡ gone ++ tickets_of rest
  pub more : List Settled
  pub now_is : now ≡ was ++ more
  pub asks : asks_settled more ≡ asks_of gone
  pub own : AreOwn table p gone → AreSettled table p more
  pub same_table : new.table ≡ old.table
  pub same_about : new.about ≡ old.about
  pub same_shard : new.shard ≡ old.shard

module _ {D : Type 0} (sight : D → Sight) (follows : D → Type 0) (table : TableId) (p : ℕ) (t : Turn D) where
  stepped_gone : (front : List Announced) → tickets_of t.jobs ≡ front ++ tickets_of t.rest → AreStepped sight (span_of t) front → HasGone table p t.old.book t.new.book t.jobs t.rest t.was t.now
  stepped_gone front split (inl made) = record {
    gone = front;
    split = split;
    more = settled_of t.old.book front _;
    now_is = made.2;
    asks = settled_asks t.old.book front _;
    own = settled_own t.old.book front _ table p;
    same_table = ap (λ (b : Booked). b.table) made.1;
    same_about = ap (λ (b : Booked). b.about) made.1;
    same_shard = ap (λ (b : Booked). b.shard) made.1;
  }
  stepped_gone front split (inr lost) = record {
    gone = front;
    split = split;
    more = settled_of _ front _;
    now_is = lost.2;
    asks = settled_asks _ front _;
    own = settled_own _ front _ table p;
    same_table = ap (λ (b : Booked). b.table) lost.1;
    same_about = ap (λ (b : Booked). b.about) lost.1;
    same_shard = ap (λ (b : Booked). b.shard) lost.1;
  }

  alone_gone : IsAlone sight follows t → HasGone table p t.old.book t.new.book t.jobs t.rest t.was t.now
  alone_gone h =
      let b = alone_same sight follows t.old t.new h.job.ticket h.reply h.receipt h.applied in
      let is = h.applied.receipt_is in
      record {
        gone = h.job.ticket ∷ [];
        split = ap tickets_of h.split;
        more = Answered h.reply h.receipt ∷ [];
        now_is = h.settled;
        asks = ap (λ (r : Received). r.step.ask ∷ []) is;
        own = λ o. ((ap (λ (r : Received). r.table) is ∙ o.0.0, ap (λ (r : Received). r.step.ask.pass) is ∙ o.0.1), tt);
        same_table = b.table;
        same_about = b.about;
        same_shard = b.shard;
      }

  back_gone : AreOwn table p (tickets_of t.jobs) → IsGivenBack t → HasGone table p t.old.book t.new.book t.jobs t.rest t.was t.now
  back_gone own h =
      let q = h.job.ticket.ask.pass in
      let mine : q ≡ p = (subst (λ (l : List Job). AreOwn table p (tickets_of l)) h.split own).0.1 in
      let by : jobs_by q t.jobs ≡ t.jobs = ap (λ (n : ℕ). jobs_by n t.jobs) mine ∙ all_by table p t.jobs own in
      let none : t.rest ≡ [] = h.rest_is ∙ (ap (λ (n : ℕ). jobs_but n t.jobs) mine ∙ none_but table p t.jobs own) in
      record {
        gone = tickets_of t.jobs;
        split = sym (append-nil (tickets_of t.jobs)) ∙ ap (λ (l : List Job). tickets_of t.jobs ++ tickets_of l) (sym none);
        more = given_back_of h.fault (tickets_of t.jobs);
        now_is = h.settled ∙ ap (λ (l : List Job). t.was ++ given_back_of h.fault (tickets_of l)) by;
        asks = refused_asks h.fault (tickets_of t.jobs);
        own = refused_own h.fault (tickets_of t.jobs) table p;
        same_table = ap (λ (s : Sharded D). s.book.table) h.same;
        same_about = ap (λ (s : Sharded D). s.book.about) h.same;
        same_shard = ap (λ (s : Sharded D). s.book.shard) h.same;
      }

  turn_gone : AreOwn table p (tickets_of t.jobs) → IsTurn sight follows t → HasGone table p t.old.book t.new.book t.jobs t.rest t.was t.now
  turn_gone own (inl h) = stepped_gone h.front h.split h.applied.stepped
  turn_gone own (inr (inl h)) = alone_gone h
  turn_gone own (inr (inr h)) = back_gone own h

gone_open : (table : TableId) (old new : Booked) (pass : Passed) (jobs rest : List Job) (was now : List Settled) → IsOpenRound table old pass jobs was → HasGone table pass.caller.pass old new jobs rest was now → AreReady new rest → IsOpenRound table new pass rest now
gone_open table old new pass jobs rest was now h g ready =
    let p = pass.caller.pass in
    let own : AreOwn table p (g.gone ++ tickets_of rest) = subst (λ (l : List Announced). AreOwn table p l) g.split h.own in
    record {
      book_table = g.same_table ∙ h.book_table;
      pass_table = h.pass_table;
      one = ap (λ (a : About). a.shards) g.same_about ∙ h.one;
      only = g.same_shard ∙ h.only;
      pass_one = h.pass_one;
      pending = h.pending
          ∙ (ap (λ (l : List Announced). asks_settled was ++ asks_of l) g.split
          ∙ (ap (λ (l : List Ask). asks_settled was ++ l) (asks_both g.gone (tickets_of rest) ∙ ap (λ (l : List Ask). l ++ asks_of (tickets_of rest)) (sym g.asks))
          ∙ (sym (append_assoc (asks_settled was) (asks_settled g.more) (asks_of (tickets_of rest)))
          ∙ ap (λ (l : List Ask). l ++ asks_of (tickets_of rest)) (sym (settled_both was g.more) ∙ ap asks_settled (sym g.now_is)))));
      rested = h.rested;
      own = own_rest table p g.gone (tickets_of rest) own;
      settled_own = subst (λ (l : List Settled). AreSettled table p l) (sym g.now_is) (settled_own_both table p was g.more h.settled_own (g.own (own_front table p g.gone (tickets_of rest) own)));
      ready = ready;
    }

-- a turn at the jobs
pub open_turn : {D : Type 0} (sight : D → Sight) (follows : D → Type 0) (table : TableId) (pass : Passed) (t : Turn D) → IsOpenRound table t.old.book pass t.jobs t.was
    → IsTurn sight follows t → AreReady t.new.book t.rest → IsOpenRound table t.new.book pass t.rest t.now
open_turn sight follows table pass t h turn ready =
    gone_open table t.old.book t.new.book pass t.jobs t.rest t.was t.now h (turn_gone sight follows table pass.caller.pass t h.own turn) ready
