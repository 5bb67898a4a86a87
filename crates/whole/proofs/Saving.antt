-- The lines of a push that is answered with 204 are in what is replayed.
use Rattle.std.proofs.Common.{◌≡◌, ◌⊎◌, ℕ, ◌<◌, Bool, true, false, cond, nat_lt, List, [], ◌∷◌, map, None, Some, Result, Ok, Err, Vec, refl, sym, ap, ◌∙◌, subst, inl, inr, ⊎_elim, arith, ◌++◌, append_assoc}
use Rattle.std.specs.declared.alloc.Global.{Global}
use Rattle.std.specs.FinMap as finite
use Rattle.std.specs.List.{fold, list_all, list_any}
use Rattle.std.proofs.lemmas.Bool.{false≢true, ltb-true, ltb-false}
use Rattle.labels.specs.Canonical.{IsTextOf}
use Rattle.headline.proofs.Common.{StreamKey, Streams, Call, Reply, NoRoom, Unavailable, Ask, Step, Item, Answered, History, About, base_last, base_kept, key_of, stored, stream_of, answered_to, IsBeginning, IsLegalAt, base_at, history_of, shard_in, shard_of, Thread, happened_to, IsOneOf, IsHeadline, IsReplay, RefusedShard, is_refusal, cases_Bool, legal_front, shard_below, among_left, among_split, and_parts}
use Rattle.entries.specs.declared.entry.Entry.{Entry}
use Rattle.accept.specs.declared.call.Call.TheVariants as calls
use Rattle.accept.specs.declared.outcome.Outcome.{Outcome}
use Rattle.accept.specs.declared.outcome.Outcome.TheVariants.{Repeat, Stored}
use Rattle.accept.specs.Lasting.{takes}
use Rattle.accept.proofs.Lasting.{stored-stays}
use Rattle.accept.proofs.Meanings.{get-meaning}
use Rattle.pushjson.specs.Reads.{ReadsPush, IsPushAnswer}
use Rattle.pushjson.specs.declared.push.RawBatch.{RawBatch}
use Rattle.pushjson.specs.declared.fault.PushFault.{PushFault}
use Rattle.pushjson.specs.declared.fault.PushFault.TheVariants.{Memory}
use Rattle.pushjson.proofs.Existence.{one_answer}
use Rattle.requests.specs.declared.route.Route.TheVariants.{Push}
use Rattle.requests.specs.declared.status.Status.{Status}
use Rattle.requests.specs.declared.status.Status.TheVariants.{NoContent, BadRequest}
use Rattle.requests.specs.declared.verdict.Verdict.TheVariants as verdicts
use Rattle.whole.proofs.Common.{Asked, AsksFor, IsCallOf, asked_push, pushes_of, Came, Refused, Replied, Failed, Whole, first_failure, Exchange, AreSteps, AreStepsBy, answered_among, steps_among, IsAcknowledged, MayBeTrimmed, WasStoredFor, IsLineKept}
use Rattle.answering.specs.Lines.{severity, worse_of, is_taken, came_status}
use Rattle.whole.proofs.Lasting.{IsTaken, AreTaken, IsLonger, answered_longer, trimmed_in, line_stored}
use Rattle.whole.proofs.Standing.{step_answered}
use Rattle.whole.proofs.Visiting.{IsCalledBy}

-- An answer of status 204.

is_best : (s : Status) → severity s ≡ 0 → s ≡ NoContent
is_best NoContent e = refl
is_best s e = absurd (omega (arith, e))

-- where the worse of two is 204, both are
both_best : (a b : Status) (less : Bool) → nat_lt (severity a) (severity b) ≡ less → cond less b a ≡ NoContent → (a ≡ NoContent) × (b ≡ NoContent)
both_best a b true lt e = absurd (omega (arith, ltb-true (severity a) (severity b) lt, ap severity e))
both_best a b false lt e = (e, is_best b (omega (arith, ltb-false (severity a) (severity b) lt, ap severity e)))

abbrev AreBest : List Came → Type 0
AreBest [] = Unit {0}
AreBest (c ∷ cs) = (came_status c ≡ NoContent) × AreBest cs

all_best : (worst : Status) (cames : List Came) → fold (λ w came. worse_of w (came_status came)) worst cames ≡ NoContent → (worst ≡ NoContent) × AreBest cames
all_best worst [] e = (e, tt)
all_best worst (c ∷ cs) e =
    let (here, others) = all_best (worse_of worst (came_status c)) cs e in
    let (before, best) = both_best worst (came_status c) (nat_lt (severity worst) (severity (came_status c))) refl here in
    (before, (best, others))

one_taken : (o : Outcome) → is_taken o ≡ true → IsTaken o
one_taken Stored e = inl refl
one_taken Repeat e = inr refl
one_taken o e = absurd (false≢true e)

all_taken : (os : List Outcome) → list_all is_taken os ≡ true → AreTaken os
all_taken [] e = tt
all_taken (o ∷ os) e = let (here, others) = and_parts (is_taken o) (list_all is_taken os) e in (one_taken o here, all_taken os others)

taken_by : (os : List Outcome) (all : Bool) → list_all is_taken os ≡ all → cond all NoContent BadRequest ≡ NoContent → AreTaken os
taken_by os true is e = all_taken os is
taken_by os false is e = absurd (cc)

not_refusal : (r : Reply) → came_status (Replied r) ≡ NoContent → is_refusal r ≡ false
not_refusal NoRoom e = absurd (cc)
not_refusal Unavailable e = absurd (cc)
not_refusal r e = refl

-- what came of the stream of a batch, where the status is 204 and none failed: a step of its call, with such a reply
record HasStepOf (tenant : List ℕ) (now : ℕ) (b : RawBatch) (steps : List Step) : Type 0 where
  pub step : Step
  pub one : IsOneOf step steps
  pub call : IsCallOf tenant (asked_push now b) step.ask.call
  pub best : came_status (Replied step.reply) ≡ NoContent

more_steps : (tenant : List ℕ) (now : ℕ) (b : RawBatch) (s : Step) (steps : List Step) → HasStepOf tenant now b steps → HasStepOf tenant now b (s ∷ steps)
more_steps tenant now b s steps h = record { step = h.step; one = inr h.one; call = h.call; best = h.best }

batch_step : (tenant : List ℕ) (now : ℕ) (bs : List RawBatch) (cames : List Came) (steps : List Step) → AreSteps tenant (map (asked_push now) bs) cames steps → AreBest cames → first_failure cames ≡ None → (b : RawBatch) → IsOneOf b bs → HasStepOf tenant now b steps
batch_step tenant now [] cames steps are best whole b one = absurd one
batch_step tenant now (c ∷ bs) [] steps are best whole b one = absurd are
batch_step tenant now (c ∷ bs) (Refused fault ∷ cs) steps are best whole b one = absurd (let never : BadRequest ≡ NoContent = best.0 in cc)
batch_step tenant now (c ∷ bs) (Failed fault ∷ cs) steps are best whole b one = absurd (let never : Some fault ≡ None = whole in cc)
batch_step tenant now (c ∷ bs) (Replied reply ∷ cs) [] are best whole b one = absurd are
batch_step tenant now (c ∷ bs) (Replied reply ∷ cs) (s ∷ steps) are best whole b (inl e) = record {
  step = s;
  one = inl refl;
  call = subst (λ (x : RawBatch). IsCallOf tenant (asked_push now x) s.ask.call) (sym e) are.0;
  best = ap (λ r. came_status (Replied r)) are.1 ∙ best.0;
}
batch_step tenant now (c ∷ bs) (Replied reply ∷ cs) (s ∷ steps) are best whole b (inr one) =
    more_steps tenant now b s steps (batch_step tenant now bs cs steps are.2 best.1 whole b one)

abbrev answered_so : List RawBatch → Result (List RawBatch) PushFault
answered_so batches = Ok batches

-- a body has one answer
read_once : (body : List ℕ) (a b : List RawBatch) → IsPushAnswer body (Ok a) → IsPushAnswer body (Ok b) → a ≡ b
read_once body a b first second =
    let one = one_answer body in
    let x : answered_so a ≡ one.0 = one.3 (answered_so a) first (λ (never : answered_so a ≡ Err Memory). absurd (cc)) in
    let y : answered_so b ≡ one.0 = one.3 (answered_so b) second (λ (never : answered_so b ≡ Err Memory). absurd (cc)) in
    let both : answered_so a ≡ answered_so b = x ∙ sym y in
    cc

-- the streams of an acknowledged push have their steps
acknowledged : (steps : List Step) (e : Exchange) (tenant : List ℕ) (batches : List RawBatch) (c : IsCalledBy steps e) → IsAcknowledged e tenant batches → (b : RawBatch) → IsOneOf b batches → HasStepOf tenant e.now b c.its
acknowledged steps e tenant batches c ack b one =
    let went : AreStepsBy e.now e.request.body (verdicts.Call Push tenant) (Whole ack.cames) c.its =
    subst (λ v. AreStepsBy e.now e.request.body v (Whole ack.cames) c.its) ack.push (subst (λ x. AreStepsBy e.now e.request.body e.verdict x c.its) ack.went c.its_are) in
    by went.0 went.1 went.2.0 went.2.1 went.2.2
  where
    by : (asked : Result (List Asked) PushFault) → AsksFor Push e.now e.request.body asked → (all : List Asked) → asked ≡ Ok all → AreSteps tenant all ack.cames c.its → HasStepOf tenant e.now b c.its
    by asked asks all is are = of_read asks.0 asks.1 (sym is ∙ asks.2)
      where
        of_read : (read : Result (Vec RawBatch Global) PushFault) → ReadsPush e.request.body read → Ok all ≡ pushes_of e.now read → HasStepOf tenant e.now b c.its
        of_read (Err fault) reads f = absurd (cc)
        of_read (Ok v) reads f =
            let same : all ≡ map (asked_push e.now) v.items = cc in
            let one_read : ack.read.items ≡ v.items = read_once e.request.body ack.read.items v.items ack.read_as reads in
            batch_step tenant e.now v.items ack.cames c.its (subst (λ l. AreSteps tenant l ack.cames c.its) same are) (all_best NoContent ack.cames ack.no_content).1 (c.whole ack.cames ack.went) b
            (subst (IsOneOf b) (ack.streams ∙ one_read) one)

-- In what is replayed.

one_of_front : {A : Type 0} (x : A) (front all : List A) → IsBeginning front all → IsOneOf x front → IsOneOf x all
one_of_front x front all h one = subst (IsOneOf x) (sym h.is) (among_left x front h.rest one)

module _ (about : About) (threads : List Thread) (k : ℕ) (history : List Item) (writing : List Ask) (state : Streams) (r : IsReplay about threads k history writing state) (legal : IsLegalAt about k history) where
  abbrev rest : List Item
  rest = r.a_beginning_of_that_history.rest

  trimmed : (key : StreamKey) (time : ℕ) (later more : List Item) → ((s : Step) → IsOneOf (Answered s) more → IsOneOf s.ask r.more) → list_any (takes key time) (later ++ more) ≡ true → MayBeTrimmed (later ++ rest) writing key time
  trimmed key time later more asked e =
      let it = trimmed_in key time (later ++ more) e in
      ⊎_elim
      (λ (l : IsOneOf (Answered it.0) later). inl (it.0, among_left (Answered it.0) later rest l, it.2, it.3))
      (λ (m : IsOneOf (Answered it.0) more). inr (it.0.ask, one_of_front it.0.ask r.more writing r.continued_only_by_calls_being_written (asked it.0 m), it.2))
      (among_split (Answered it.0) later more it.1)

  abbrev in_history : (key : StreamKey) (s : Step) (y : Entry) → WasStoredFor r.beginning key s y → WasStoredFor history key s y
  in_history key s y w = record {
    before = w.before;
    item = w.item;
    later = w.later ++ rest;
    parts = r.a_beginning_of_that_history.is ∙ ap (λ l. l ++ rest) w.parts ∙ append_assoc w.before (w.item ∷ w.later) rest;
    there = w.there;
    its_own = ⊎_elim
        (λ (e : w.item ≡ Answered s). inl e)
        (λ (e : (between : List Item) × (after : List Item) × (w.later ≡ between ++ Answered s ∷ after) × (stored between key ≡ [])).
        inr (e.0, e.1 ++ rest, ap (λ l. l ++ rest) e.2 ∙ append_assoc e.0 (Answered s ∷ e.1) rest, e.3))
        w.its_own;
  }

  abbrev Kept : StreamKey → Step → Entry → Type 0
  Kept key s y = IsOneOf y (base_kept (finite.get state key)) ⊎ ((w : WasStoredFor history key s y) × MayBeTrimmed w.later writing key y.time) ⊎ (base_last (finite.get (base_at about k) key) ≡ Some y)

  -- what was stored is in the state, or trimmed since
  kept_for : (key : StreamKey) (s : Step) (y : Entry) → WasStoredFor r.beginning key s y → Kept key s y
  kept_for key s y w =
      let h : History = answered_to about.limits (history_of about k r.beginning) r.more in
      let longer : IsLonger (history_of about k r.beginning) r.more h = answered_longer about.limits (history_of about k r.beginning) r.more in
      let items : List Item = w.later ++ longer.more in
      let all : h.items ≡ w.before ++ w.item ∷ items = longer.items ∙ ap (λ l. l ++ longer.more) w.parts ∙ append_assoc w.before (w.item ∷ w.later) longer.more in
      let here : finite.get state key ≡ stream_of (history_of about k (w.before ++ w.item ∷ items)) key =
      ap (λ m. finite.get m key) r.the_state_after ∙ get-meaning h key ∙ (λ j. stream_of (record { base = longer.base j; items = all j }) key) in
      ⊎_elim
      (λ (e : list_any (takes key y.time) items ≡ true). inr (inl (in_history key s y w, trimmed key y.time w.later longer.more longer.asked e)))
      (λ (e : list_any (takes key y.time) items ≡ false).
      inl (subst (λ o. IsOneOf y (base_kept o)) (sym here) (stored-stays (base_at about k) w.before w.item items key y w.there e)))
      (cases_Bool (list_any (takes key y.time) items))

  pub line_kept : (s : Step) (key : StreamKey) (now : ℕ) (entries : List Entry) → IsOneOf (Answered s) r.beginning → s.ask.call ≡ calls.Push key now entries → came_status (Replied s.reply) ≡ NoContent → (x : Entry) → IsOneOf x entries → IsLineKept about k history writing state key s x
  line_kept s key now entries one call best x of =
      let front : IsLegalAt about k r.beginning = legal_front about k r.beginning history r.a_beginning_of_that_history legal in
      let it = line_stored about k r.beginning s key now entries front one call (not_refusal s.reply best) (λ os e. taken_by os (list_all is_taken os) refl (sym (ap (λ r. came_status (Replied r)) e) ∙ best)) x of in (
        it.0,
        it.1,
        ⊎_elim
            (λ (w : WasStoredFor r.beginning key s it.0). kept_for key s it.0 w)
            (λ (e : base_last (finite.get (base_at about k) key) ≡ Some it.0). inr (inr e))
            it.2,
      )

module _ (about : About) (threads : List Thread) (history : ℕ → List Item) (writing : ℕ → List Ask) (read : ℕ → Streams → Type 0) (failed : ℕ → Type 0) (replay : ℕ → Streams → Type 0) (refusal : ℕ → RefusedShard → Type 0)
    (headline : IsHeadline about threads history writing read failed replay refusal) (some_shard : 0 < about.shards) where
  -- a line of a push of status 204
  step_kept : (s : Step) (key : StreamKey) (now : ℕ) (entries : List Entry) → IsOneOf s (steps_among (happened_to threads)) → s.ask.call ≡ calls.Push key now entries → came_status (Replied s.reply) ≡ NoContent → (x : Entry) → IsOneOf x entries
      → (k : ℕ) → k ≡ shard_of key about.shards → (state : Streams) → replay k state → IsLineKept about k (history k) (writing k) state key s x
  step_kept s key now entries one call best x of k here state replayed =
      let it = step_answered s (answered_among (happened_to threads)) one in
      let its : shard_in about s.ask ≡ k = ap (λ (c : Call). shard_of (key_of c) about.shards) call ∙ sym here in
      let lt : k < about.shards = subst (λ j. j < about.shards) its (shard_below about s.ask some_shard) in
      let r : IsReplay about threads k (history k) (writing k) state = headline.whatever_crash_comes k lt state replayed in
      let there : IsOneOf (Answered s) r.beginning = subst (λ t. IsOneOf (Answered t) r.beginning) (sym it.2) (r.holds_every_answered_call it.0 it.1 (sym (ap (λ t. shard_in about t.ask) it.2) ∙ its)) in
      line_kept about threads k (history k) (writing k) state r (headline.each_shards_calls k lt).0 s key now entries there call best x of

  pub lines_safe : (e : Exchange) (c : IsCalledBy (steps_among (happened_to threads)) e) (tenant : List ℕ) (batches : List RawBatch) → IsAcknowledged e tenant batches → (b : RawBatch) → IsOneOf b batches
      → (labels : List ℕ) × IsTextOf labels b.pairs × (s : Step) × IsOneOf s c.its
      × (s.ask.call ≡ calls.Push (record { tenant = tenant; labels = labels }) e.now b.entries)
      × ((x : Entry) → IsOneOf x b.entries → (k : ℕ) → k ≡ shard_of (record { tenant = tenant; labels = labels }) about.shards → (state : Streams) → replay k state
      → IsLineKept about k (history k) (writing k) state (record { tenant = tenant; labels = labels }) s x)
  lines_safe e c tenant batches ack b one =
      let its = acknowledged (steps_among (happened_to threads)) e tenant batches c ack b one in (
        its.call.labels,
        its.call.text,
        its.step,
        its.one,
        its.call.is,
        λ x of k here state replayed.
            step_kept its.step (record { tenant = tenant; labels = its.call.labels }) e.now b.entries (c.among its.step its.one) its.call.is its.best x of k here state replayed,
      )
