-- What comes of the one job of a turn, and of its call.
use Rattle.std.proofs.Common.{◌≡◌, ℕ, ◌+◌, ◌≤◌, Bool, false, cond, eq-eqb, List, [], ◌∷◌, ◌++◌, length, refl, sym, ap, ◌∙◌, subst, inl, inr, ⊎_elim, arith, Ok}
use Rattle.headline.proofs.Common.{Call, Reply, Ask, Caller, Sight, Sharded, Opening, AreNumbers, slots, IsFirst, shard_in, step_of, IsRested, HasSeenStep, ask_of, collect_to, Booked, Passed, Announced, Received, is_closed_pass, asks_of, Job, HaveStepsOr, with_steps, marked_by, Turn, AreReady, AreTogether, IsAlone, IsGivenBack, IsTurn, given_back_of, IsPassOf, IsGiven, with_next}
use Rattle.shard.specs.declared.first_jobs.GroupEnd.{GroupEnd}
use Rattle.shard.specs.declared.group.Settled.{Settled}
use Rattle.shard.specs.declared.group.Settled.TheVariants.{Answered, GivenBack}
use Rattle.shard.specs.Jobs.{tickets_of, jobs_by}
use Rattle.shard.specs.Keeping.{moments}
use Rattle.shard.specs.Queues.{settled_of}
use Rattle.ingester.specs.Batches.{IsTaken}
use Rattle.ingester.proofs.Passing.{settled_call}
use Rattle.one_life.specs.Cut.{IsOfTicket}

-- ---- one job

-- a turn, by its parts
abbrev pub turn_by : {D : Type 0} → Sharded D → Sharded D → List Job → List Job → List Settled → List Settled → GroupEnd → Turn D
turn_by old new jobs rest was now ended = record { old = old; new = new; jobs = jobs; rest = rest; was = was; now = now; ended = ended }

pub ready_one : (book : Booked) (t : Announced) (call : Call) → t.table ≡ book.table → shard_in book.about t.ask ≡ book.shard → t.ask.call ≡ call → AreNumbers call → t.before ≡ [] → AreReady book (record { ticket = t; call = call } ∷ [])
ready_one book t call table here is numbers none = record {
  of_book = (table, here, tt);
  lawful = (here, is, numbers, tt);
  turn = (subst (λ (l : List Ask). HaveStepsOr l book.items []) (sym none) tt, tt);
}

only_front : (front rest : List Announced) (t : Announced) → t ∷ [] ≡ front ++ rest → 1 ≤ length front → front ≡ t ∷ []
only_front [] rest t e some = absurd (omega arith)
only_front (x ∷ []) rest t e some = let same : x ≡ t = cc in ap (λ (y : Announced). y ∷ []) same
only_front (x ∷ y ∷ front) rest t e some = absurd (cc)

-- of a list of one job there is one outcome
abbrev pub Came : Announced → List Settled → Type 0
Came t now = (s : Settled) × (now ≡ s ∷ []) × IsOfTicket t s

of_settled : (t : Announced) (book : Booked) (front : List Announced) (moment : ℕ × ℕ) (was now : List Settled) → front ≡ t ∷ [] → was ≡ [] → now ≡ was ++ settled_of book front moment → Came t now
of_settled t book front moment was now e none is =
    let all : now ≡ settled_of book (t ∷ []) moment = is ∙ (λ i. none i ++ settled_of book (e i) moment) in
    (_, all, (refl, refl))

module _ {D : Type 0} (sight : D → Sight) (follows : D → Type 0) (turn : Turn D) (j : Job) (jobs : turn.jobs ≡ j ∷ []) (none : turn.was ≡ []) where
  together : AreTogether sight follows turn → Came j.ticket turn.now
  together h =
      let front : h.front ≡ j.ticket ∷ [] = only_front h.front (tickets_of turn.rest) j.ticket (sym (ap tickets_of jobs) ∙ h.split) h.some in
      let moment = moments (slots sight turn.new.log) in
      ⊎_elim
      (λ (m : _ × (turn.new.book ≡ with_steps turn.old.book (asks_of h.front)) × (turn.now ≡ turn.was ++ settled_of turn.old.book h.front moment)). of_settled j.ticket turn.old.book h.front moment turn.was turn.now front none m.2)
      (λ (m : _ × (turn.new.book ≡ with_steps (marked_by turn.old.book (asks_of h.front)) (asks_of h.front)) × (turn.now ≡ turn.was ++ settled_of (marked_by turn.old.book (asks_of h.front)) h.front moment)). of_settled j.ticket (marked_by turn.old.book (asks_of h.front)) h.front moment turn.was turn.now front none m.2)
      h.applied.stepped

  alone : IsAlone sight follows turn → Came j.ticket turn.now
  alone h =
      let both : j ∷ [] ≡ h.job ∷ turn.rest = sym jobs ∙ h.split in
      let same : h.job ≡ j = cc in
      let receipt = h.applied.receipt_is in (
        Answered h.reply h.receipt,
        h.settled ∙ ap (λ (l : List Settled). l ++ Answered h.reply h.receipt ∷ []) none,
        (
          ap (λ (r : Received). r.table) receipt ∙ ap (λ (i : Job). i.ticket.table) same,
          ap (λ (r : Received). r.step) receipt ∙ ap (λ (i : Job). step_of i.ticket.ask h.reply) same,
        ),
      )

  given_back : IsGivenBack turn → Came j.ticket turn.now
  given_back h =
      let both : j ∷ [] ≡ h.job ∷ h.others = sym jobs ∙ h.split in
      let same : h.job ≡ j = cc in
      let p : ℕ = j.ticket.ask.pass in
      let by : jobs_by h.job.ticket.ask.pass turn.jobs ≡ j ∷ [] = (λ i. jobs_by (same i).ticket.ask.pass (jobs i)) ∙ ap (λ (b : Bool). cond b (j ∷ []) []) (eq-eqb p p refl) in (
        GivenBack h.fault j.ticket,
        h.settled ∙ (λ i. none i ++ given_back_of h.fault (tickets_of (by i))),
        refl,
      )

  pub came_of : IsTurn sight follows turn → Came j.ticket turn.now
  came_of (inl h) = together h
  came_of (inr (inl h)) = alone h
  came_of (inr (inr h)) = given_back h

-- so what is taken from the list is of the ticket
pub popped : (t : Announced) (now left : List Settled) (s : Settled) → Came t now → now ≡ left ++ s ∷ [] → IsOfTicket t s
popped t now [] s came e =
    let all : came.0 ∷ [] ≡ s ∷ [] = sym came.1 ∙ e in
    let same : came.0 ≡ s = cc in
    subst (IsOfTicket t) same came.2
popped t now (x ∷ []) s came e = let never : came.0 ∷ [] ≡ x ∷ s ∷ [] = sym came.1 ∙ e in absurd (cc)
popped t now (x ∷ y ∷ left) s came e = let never : came.0 ∷ [] ≡ x ∷ y ∷ (left ++ s ∷ []) = sym came.1 ∙ e in absurd (cc)

-- ---- an answered call

-- the answer to the next call of a pass was taken in
pub given_by : {D : Type 0} (opening : Opening D) (was now : Passed) (call : Call) (reply : Reply) (receipt : Received) → IsPassOf opening was → is_closed_pass was ≡ false
    → receipt.step ≡ step_of (ask_of was.caller (was.caller.last + 1) call) reply → IsFirst receipt.step.ask (with_next was call).caller.pending
    → now ≡ record (with_next was call) { caller = collect_to (with_next was call).caller receipt.step receipt.upto } → HasSeenStep (with_next was call).caller now.caller receipt.step receipt.upto → IsRested now.caller
    → IsGiven was call (Ok reply) now × IsPassOf opening now
given_by opening was now call reply receipt of up step first pass seen rested =
    let mid : Passed = with_next was call in
    let same : step_of receipt.step.ask reply ≡ receipt.step = ap (λ (a : Ask). step_of a reply) (ap (λ s. s.ask) step) ∙ sym step in
    let c : Caller = collect_to mid.caller receipt.step receipt.upto in
    let caller : now.caller ≡ c = ap (λ (p : Passed). p.caller) pass in
    let taken : IsTaken mid now (Ok reply) = record {
      first = receipt.step.ask;
      is_first = first;
      by = record {
        upto = receipt.upto;
        pass = pass ∙ ap (λ s. record mid { caller = collect_to mid.caller s receipt.upto }) (sym same);
        seen = subst (λ s. HasSeenStep mid.caller (collect_to mid.caller s receipt.upto) s receipt.upto) (sym same) (subst (λ (d : Caller). HasSeenStep mid.caller d receipt.step receipt.upto) caller seen);
        rested = subst (λ s. IsRested (collect_to mid.caller s receipt.upto)) (sym same) (subst IsRested caller rested);
      };
    } in
    let made = settled_call opening was now call (Ok reply) of up (inl taken) in
    (made.given, made.pass)
