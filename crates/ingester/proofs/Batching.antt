-- Jobs of a pass's open calls, in the messages to their shards.
use Rattle.std.proofs.Common.{◌≡◌, ◌≢◌, ℕ, zero, suc, ◌+◌, ◌<◌, ◌≤◌, List, [], ◌∷◌, ◌++◌, Bool, true, false, cond, eqb, length, refl, sym, ap, ◌∙◌, subst, ⊎_elim, append_assoc, append-nil, get_or, arith, eq-eqb, ne_eqb}
use lib.ListN.{replicate}
use Rattle.std.specs.Prelude.{Option, Some, None, MatchOption, slice_set, slice_index_or}
use Rattle.std.proofs.lemmas.List.{get_or-set_same, get_or-set_other, length-set}
use Rattle.std.proofs.lemmas.Option.{none-some, same_Some, slice_get-get_or, slice_get_within, get_or_from_slice_get}
use Rattle.std.proofs.lemmas.Bool.{cases_eq}
use Rattle.atomic_table.specs.Seated.{TableId}
use Rattle.accept.specs.Calls.{AreNumbers}
use Rattle.accept.specs.declared.call.Call.{Call}
use Rattle.accept.specs.declared.history.Ask.{Ask}
use Rattle.history.specs.declared.views.About.{About}
use Rattle.history.specs.declared.views.Caller.{Caller}
use Rattle.history.specs.Histories.{asks_on, shard_in}
use Rattle.history.specs.Plays.{ask_of, before_of, announce_to}
use Rattle.history.specs.Handles.{Announced, Passed, asks_of, AreInLine}
use Rattle.accept.specs.Histories.{key_of}
use Rattle.labels.specs.Shards.{shard}
use Rattle.ingester.proofs.Routing.{routed}
use Rattle.shard.specs.declared.first_jobs.Job.{Job}
use Rattle.shard.specs.Jobs.{tickets_of}
use Rattle.keyed.specs.Queues.{sends_to, receives_as}
use Rattle.owners.specs.declared.routes.ShardRoute.{ShardRoute}
use Rattle.owners.specs.Homes.{Homed}
use Rattle.owners.specs.Calls.{IsWaiting, AreWaiting, AreOfPass}
use Rattle.owners.specs.Routes.{IsReadyRoute, AreReadyRoutes, AreLoaded, AreIdleRoutes, HasSameRest}
use Rattle.owners.proofs.Each.{routes_set}
use Rattle.ingester.specs.Batches.{IsBatchOf, AreBatchesOf, AreBelow, AreCountedFrom, IsPutIntoMessage}

tickets_more : (jobs : List Job) (job : Job) → tickets_of (jobs ++ job ∷ []) ≡ tickets_of jobs ++ job.ticket ∷ []
tickets_more [] job = refl
tickets_more (j ∷ jobs) job = ap (λ (l : List Announced). j.ticket ∷ l) (tickets_more jobs job)

asks_more : (ts : List Announced) (t : Announced) → asks_of (ts ++ t ∷ []) ≡ asks_of ts ++ t.ask ∷ []
asks_more [] t = refl
asks_more (u ∷ ts) t = ap (λ (l : List Ask). u.ask ∷ l) (asks_more ts t)

of_pass_more : (p : ℕ) (ts : List Announced) (t : Announced) → AreOfPass p ts → t.ask.pass ≡ p → AreOfPass p (ts ++ t ∷ [])
of_pass_more p [] t h e = (e, tt)
of_pass_more p (u ∷ ts) t h e = (h.0, of_pass_more p ts t h.1 e)

line_more : (front : List Ask) (ts : List Announced) (t : Announced) → AreInLine front ts → t.before ≡ front ++ asks_of ts → AreInLine front (ts ++ t ∷ [])
line_more front [] t h e = (e ∙ append-nil front, tt)
line_more front (u ∷ ts) t h e = (h.0, line_more (front ++ u.ask ∷ []) ts t h.1 (e ∙ sym (append_assoc front (u.ask ∷ []) (asks_of ts))))

cond_asks : (b : Bool) (a : Ask) (xs ys : List Ask) → cond b (a ∷ (xs ++ ys)) (xs ++ ys) ≡ cond b (a ∷ xs) xs ++ ys
cond_asks true a xs ys = refl
cond_asks false a xs ys = refl

asks_on_append : (about : About) (k : ℕ) (xs ys : List Ask) → asks_on about k (xs ++ ys) ≡ asks_on about k xs ++ asks_on about k ys
asks_on_append about k [] ys = refl
asks_on_append about k (a ∷ xs) ys = ap (λ (l : List Ask). cond (eqb k (shard_in about a)) (a ∷ l) l) (asks_on_append about k xs ys) ∙ cond_asks (eqb k (shard_in about a)) a (asks_on about k xs) (asks_on about k ys)

asks_here : (about : About) (k : ℕ) (xs : List Ask) (a : Ask) → k ≡ shard_in about a → asks_on about k (xs ++ a ∷ []) ≡ asks_on about k xs ++ a ∷ []
asks_here about k xs a e = asks_on_append about k xs (a ∷ []) ∙ ap (λ (b : Bool). asks_on about k xs ++ cond b (a ∷ []) []) (eq-eqb k (shard_in about a) e)

asks_elsewhere : (about : About) (k : ℕ) (xs : List Ask) (a : Ask) → k ≢ shard_in about a → asks_on about k (xs ++ a ∷ []) ≡ asks_on about k xs
asks_elsewhere about k xs a e = asks_on_append about k xs (a ∷ []) ∙ ap (λ (b : Bool). asks_on about k xs ++ cond b (a ∷ []) []) (ne_eqb k (shard_in about a) e) ∙ append-nil (asks_on about k xs)

-- one open call more
pub numbered_more : (n : ℕ) (asks : List Ask) (a : Ask) → AreCountedFrom n asks → a.number ≡ n + length asks → AreCountedFrom n (asks ++ a ∷ [])
numbered_more n [] a h e = let is : a.number ≡ n = omega arith in (is, tt)
numbered_more n (b ∷ asks) a h e = (h.0, numbered_more (n + 1) asks a h.1 (omega arith))

module _ (table : TableId) (about : About) where
  waiting_more : (k : ℕ) (jobs : List Job) (job : Job) → AreWaiting table about k jobs → IsWaiting table about k job → AreWaiting table about k (jobs ++ job ∷ [])
  waiting_more k [] job h is = (is, tt)
  waiting_more k (j ∷ jobs) job h is = (h.0, waiting_more k jobs job h.1 is)

  -- the job of the next call of a pass
  abbrev pub job_of : Caller → Call → Job
  job_of c call = record { ticket = record { table = table; ask = ask_of c (c.last + 1) call; doubted = false; before = before_of c (c.last + 1) call }; call = call }

  batch_more : (c : Caller) (call : Call) (jobs now : List Job) → c.about ≡ about → AreNumbers call → IsBatchOf table about (shard_in about (ask_of c (c.last + 1) call)) c jobs → now ≡ jobs ++ job_of c call ∷ []
      → IsBatchOf table about (shard_in about (ask_of c (c.last + 1) call)) (announce_to c (c.last + 1) call) now
  batch_more c call jobs now at numbers h is =
      let a : Ask = ask_of c (c.last + 1) call in
      let k : ℕ = shard_in about a in
      let job : Job = job_of c call in
      let ts : List Announced = tickets_of jobs in
      let before : job.ticket.before ≡ asks_of ts = (λ i. asks_on (at i) (shard_in (at i) a) c.pending) ∙ sym h.asks in
      subst (IsBatchOf table about k (announce_to c (c.last + 1) call)) (sym is) (record {
        batch = record {
          waiting = waiting_more k jobs job h.batch.waiting (record { ticket = record { same_table = refl; sure = refl }; shard = refl; call = refl; numbers = numbers });
          pass = subst (AreOfPass c.pass) (sym (tickets_more jobs job)) (of_pass_more c.pass ts job.ticket h.batch.pass refl);
          line = subst (AreInLine []) (sym (tickets_more jobs job)) (line_more [] ts job.ticket h.batch.line before);
        };
        asks = ap asks_of (tickets_more jobs job) ∙ asks_more ts job.ticket ∙ ap (λ (l : List Ask). l ++ a ∷ []) h.asks ∙ sym (asks_here about k c.pending a refl);
      })

  batch_same : (c : Caller) (call : Call) (k : ℕ) (jobs : List Job) → k ≢ shard_in about (ask_of c (c.last + 1) call) → IsBatchOf table about k c jobs → IsBatchOf table about k (announce_to c (c.last + 1) call) jobs
  batch_same c call k jobs ne h = record { batch = h.batch; asks = h.asks ∙ sym (asks_elsewhere about k c.pending (ask_of c (c.last + 1) call) ne) }

  -- one call more, in the batch of its shard
  pub batches_more : (c : Caller) (call : Call) (batches : List (ShardRoute)) (k : ℕ) (was now : ShardRoute) → c.about ≡ about → AreNumbers call → shard_in about (ask_of c (c.last + 1) call) ≡ k → k < length batches
      → was ≡ get_or batches k was → now.message.jobs.items ≡ was.message.jobs.items ++ job_of c call ∷ [] → AreBatchesOf table about c batches → AreBatchesOf table about (announce_to c (c.last + 1) call) (slice_set batches k now)
  batches_more c call batches k was now at numbers here lt there is all j jobs e = ⊎_elim
      (λ (same : j ≡ k).
      let mine : jobs ≡ now = sym (get_or_from_slice_get (slice_set batches k now) j jobs now e) ∙ ap (λ (n : ℕ). get_or (slice_set batches k now) n now) same ∙ get_or-set_same batches k now now lt in
      let before : IsBatchOf table about k c was.message.jobs.items = all k was (slice_get-get_or batches k was lt ∙ ap Some (sym there)) in
      subst (λ (n : ℕ). IsBatchOf table about n (announce_to c (c.last + 1) call) jobs.message.jobs.items) (here ∙ sym same) (batch_more c call was.message.jobs.items jobs.message.jobs.items at numbers (subst (λ (n : ℕ). IsBatchOf table about n c was.message.jobs.items) (sym here) before) (ap (λ (d : ShardRoute). d.message.jobs.items) mine ∙ is)))
      (λ (ne : j ≢ k).
      let long : length (slice_set batches k now) ≡ length batches = length-set batches k now in
      let within : j < length (slice_set batches k now) = slice_get_within (slice_set batches k now) j jobs e in
      let still : get_or batches j jobs ≡ jobs = sym (get_or-set_other batches k j now jobs ne) ∙ get_or_from_slice_get (slice_set batches k now) j jobs jobs e in
      batch_same c call j jobs.message.jobs.items (λ (same : j ≡ shard_in about (ask_of c (c.last + 1) call)). ne (same ∙ here)) (all j jobs (slice_get-get_or batches j jobs (omega arith) ∙ ap Some still)))
      (cases_eq j k)

  -- no call more
  pub batches_alike : (c : Caller) (batches : List (ShardRoute)) (k : ℕ) (was now : ShardRoute) → k < length batches → was ≡ get_or batches k was → now.message.jobs.items ≡ was.message.jobs.items → AreBatchesOf table about c batches → AreBatchesOf table about c (slice_set batches k now)
  batches_alike c batches k was now lt there is all j jobs e = ⊎_elim
      (λ (same : j ≡ k).
      let mine : jobs ≡ now = sym (get_or_from_slice_get (slice_set batches k now) j jobs now e) ∙ ap (λ (n : ℕ). get_or (slice_set batches k now) n now) same ∙ get_or-set_same batches k now now lt in
      let before : IsBatchOf table about k c was.message.jobs.items = all k was (slice_get-get_or batches k was lt ∙ ap Some (sym there)) in
      subst (λ (z : ℕ × List Job). IsBatchOf table about z.0 c z.1) (λ i. (sym same i, sym (ap (λ (d : ShardRoute). d.message.jobs.items) mine ∙ is) i)) before)
      (λ (ne : j ≢ k).
      let long : length (slice_set batches k now) ≡ length batches = length-set batches k now in
      let within : j < length (slice_set batches k now) = slice_get_within (slice_set batches k now) j jobs e in
      let still : get_or batches j jobs ≡ jobs = sym (get_or-set_other batches k j now jobs ne) ∙ get_or_from_slice_get (slice_set batches k now) j jobs jobs e in
      all j jobs (slice_get-get_or batches j jobs (omega arith) ∙ ap Some still))
      (cases_eq j k)

  -- one call more in the batch of its shard
  pub batches_joined : (old new : Passed) (calls left : List Call) (batches : List (ShardRoute)) (k count number : ℕ) (was now : ShardRoute) (first : Call) → old.caller.about ≡ about → about.shards ≡ count → first ≡ get_or calls 0 first → k ≡ shard (key_of first) count → k < length batches
      → was ≡ get_or batches k was → AreBatchesOf table about old.caller batches → IsPutIntoMessage table old new calls left was.message.jobs.items now.message.jobs.items number → AreBatchesOf table about new.caller (slice_set batches k now)
  batches_joined old new calls left batches k count number was now first at shards is_first routed_to lt there all h =
      let a : Ask = ask_of old.caller (old.caller.last + 1) h.call in
      let same : h.call ≡ first = sym (is_first ∙ ap (λ (l : List Call). get_or l 0 first) h.calls_are) in
      subst (λ (p : Passed). AreBatchesOf table about p.caller (slice_set batches k now)) (sym h.pass)
      (batches_more old.caller h.call batches k was now at h.numbers (routed about a first count k same shards routed_to) lt there h.jobs_are all)

  no_asks : (jobs : List Job) → asks_of (tickets_of jobs) ≡ [] → jobs ≡ []
  no_asks [] e = refl
  no_asks (j ∷ jobs) e = absurd (clash e)
    where
      clash : j.ticket.ask ∷ asks_of (tickets_of jobs) ≡ [] → ⊥
      clash e = cc

  -- where no call is open, no call is in the messages
  pub routes_idle : (home : Homed) (p : ℕ) (c : Caller) (routes : List ShardRoute) → c.pending ≡ [] → AreBatchesOf table about c routes → AreReadyRoutes home p routes → AreIdleRoutes home p routes
  routes_idle home p c routes idle all ready k route e =
      let r = ready k route e in
      record { message = record { pass = r.pass; jobs = no_asks route.message.jobs.items ((all k route e).asks ∙ ap (λ (l : List Ask). asks_on about k l) idle); settled = r.settled }; orders = r.orders; answers = r.answers }

few_asks : (about : About) (k : ℕ) (asks : List Ask) → length (asks_on about k asks) ≤ length asks
few_asks about k [] = omega arith
few_asks about k (a ∷ asks) = pick (eqb k (shard_in about a)) (few_asks about k asks)
  where
    pick : (b : Bool) → length (asks_on about k asks) ≤ length asks → length (cond b (a ∷ asks_on about k asks) (asks_on about k asks)) ≤ length (a ∷ asks)
    pick true few = omega arith
    pick false few = omega arith

as_many : (jobs : List Job) → length jobs ≡ length (asks_of (tickets_of jobs))
as_many [] = refl
as_many (j ∷ jobs) = ap suc (as_many jobs)

-- the routes are loaded with the open calls
pub routes_loaded : (home : Homed) (c : Caller) (routes : List ShardRoute) → length c.pending ≤ 64 → AreBatchesOf home.table home.about c routes → AreReadyRoutes home c.pass routes → AreLoaded home c.pass routes
routes_loaded home c routes few all ready k route e =
    let b = all k route e in
    let long = as_many route.message.jobs.items ∙ ap length b.asks in
    let less = few_asks home.about k c.pending in
    record { ready = ready k route e; batch = b.batch; few = omega (arith, route.message.jobs.ok.0) }

-- what a route was but for the calls in its message
pub ready_still : (home : Homed) (p : ℕ) (routes : List ShardRoute) (k : ℕ) (was now : ShardRoute) → k < length routes → was ≡ get_or routes k was → HasSameRest was now → AreReadyRoutes home p routes → AreReadyRoutes home p (slice_set routes k now)
ready_still home p routes k was now lt there same all =
    let r = all k was (slice_get-get_or routes k was lt ∙ ap Some (sym there)) in
    routes_set (IsReadyRoute home p) routes k now lt all (record { pass = same.pass ∙ r.pass; settled = same.settled ∙ r.settled; orders = ap (λ s. sends_to s) same.orders ∙ r.orders; answers = ap (λ s. receives_as s) same.answers ∙ r.answers })

-- one number again and again
pub below_same : (n x m : ℕ) → x < n → AreBelow n (replicate m x)
below_same n x zero lt k number e = absurd (none-some number e)
below_same n x (suc m) lt zero number e = subst (λ y. y < n) (same_Some x number e) lt
below_same n x (suc m) lt (suc k) number e = below_same n x m lt k number e

-- where there is none
pub none_is : {A : Type 0} (P : Type 0) (Q : A → Type 0) (found : Option A) → found ≡ None → MatchOption found P Q → P
none_is P Q None e h = h
none_is P Q (Some x) e h = absurd (none-some x (sym e))

-- one of two, by whether something was found
pub either_ways : {A : Type 0} (P Q : Type 0) (found : Option A) → (found ≡ None → P) → Q → MatchOption found P (λ _. Q)
either_ways P Q None none q = none refl
either_ways P Q (Some x) none q = q

-- a number of a list
pub below_at : (n : ℕ) (numbers : List ℕ) (k : ℕ) → AreBelow n numbers → k < length numbers → slice_index_or numbers k 0 < n
below_at n numbers k all lt = all k (slice_index_or numbers k 0) (slice_get-get_or numbers k 0 lt)
