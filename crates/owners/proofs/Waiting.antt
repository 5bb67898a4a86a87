-- Calls that wait at a shard.
use Rattle.std.proofs.Common.{◌≡◌, ℕ, Bool, true, false, cond, eqb, eq-eqb, List, [], ◌∷◌, ◌++◌, inl, inr, refl, sym, ap, ◌∙◌, subst}
use Rattle.atomic_table.specs.Seated.{TableId}
use Rattle.accept.specs.declared.history.Ask.{Ask}
use Rattle.accept.specs.declared.history.Item.{Item}
use Rattle.history.specs.declared.views.About.{About}
use Rattle.history.specs.Histories.{of_pass, IsAmong}
use Rattle.history.specs.Handles.{Announced, AreInLine}
use Rattle.shard.specs.declared.first_jobs.Job.{Job}
use Rattle.shard.specs.Groups.{HaveStepsOr}
use Rattle.shard.specs.Jobs.{tickets_of, AreInPassTurn}
use Rattle.owners.specs.Calls.{AreOfPass, AreWaiting, IsBatch}

-- Calls of a pass after others.

tickets_append : (some more : List Job) → tickets_of (some ++ more) ≡ tickets_of some ++ tickets_of more
tickets_append [] more = refl
tickets_append (j ∷ some) more = ap (λ (ts : List Announced). j.ticket ∷ ts) (tickets_append some more)

cond_more : (a b : Ask) (asks : List Ask) (mine : Bool) (some all : List Ask) → (IsAmong a some → IsAmong a all) → IsAmong a (cond mine (b ∷ some) some) → IsAmong a (cond mine (b ∷ all) all)
cond_more a b asks true some all f (inl e) = inl e
cond_more a b asks true some all f (inr m) = inr (f m)
cond_more a b asks false some all f m = f m

-- whose pass's calls are among some are among more
among_more : (p : ℕ) (a : Ask) (front more : List Ask) → IsAmong a (of_pass p front) → IsAmong a (of_pass p (front ++ more))
among_more p a [] more m = absurd m
among_more p a (b ∷ front) more m = cond_more a b front (eqb p b.pass) (of_pass p front) (of_pass p (front ++ more)) (among_more p a front more) m

cond_last : (a b : Ask) (mine : Bool) (all : List Ask) → IsAmong a all → IsAmong a (cond mine (b ∷ all) all)
cond_last a b true all m = inr m
cond_last a b false all m = m

-- the last one is among those of its pass
among_last : (p : ℕ) (a : Ask) (front : List Ask) → a.pass ≡ p → IsAmong a (of_pass p (front ++ a ∷ []))
among_last p a [] e = subst (λ (mine : Bool). IsAmong a (cond mine (a ∷ []) [])) (sym (eq-eqb p a.pass (sym e))) (inl refl)
among_last p a (b ∷ front) e = cond_last a b (eqb p b.pass) (of_pass p (front ++ a ∷ [])) (among_last p a front e)

or_more : (p : ℕ) (asks : List Ask) (items : List Item) (front more : List Ask) → HaveStepsOr asks items (of_pass p front) → HaveStepsOr asks items (of_pass p (front ++ more))
or_more p [] items front more h = tt
or_more p (a ∷ asks) items front more h = (
  elim h.0 [
    | inl s ↦ inl s
    | inr m ↦ inr (among_more p a front more m)
  ],
  or_more p asks items front more h.1,
)

or_last : (asks : List Ask) (a : Ask) (items : List Item) (front : List Ask) → HaveStepsOr asks items front → IsAmong a front → HaveStepsOr (asks ++ a ∷ []) items front
or_last [] a items front h m = (inr m, tt)
or_last (b ∷ asks) a items front h m = (h.0, or_last asks a items front h.1 m)

-- calls of a pass in line, after those of its calls in front
line_turn : (p : ℕ) (items : List Item) (front done : List Ask) (ts : List Announced) → AreOfPass p ts → AreInLine done ts → HaveStepsOr done items (of_pass p front) → AreInPassTurn items front ts
line_turn p items front done [] of line h = tt
line_turn p items front done (t ∷ ts) of line h = (
  subst (λ (before : List Ask). HaveStepsOr before items (of_pass t.ask.pass front)) (sym line.0) (subst (λ (q : ℕ). HaveStepsOr done items (of_pass q front)) (sym of.0) h),
  line_turn p items (front ++ t.ask ∷ []) (done ++ t.ask ∷ []) ts of.1 line.1
      (or_last done t.ask items (of_pass p (front ++ t.ask ∷ [])) (or_more p done items front (t.ask ∷ []) h) (among_last p t.ask front of.0)),
)

turn_batch : (p : ℕ) (items : List Item) (front : List Ask) (ts batch : List Announced) → AreInPassTurn items front ts → AreOfPass p batch → AreInLine [] batch → AreInPassTurn items front (ts ++ batch)
turn_batch p items front [] batch h of line = line_turn p items front [] batch of line tt
turn_batch p items front (t ∷ ts) batch h of line = (h.0, turn_batch p items (front ++ t.ask ∷ []) ts batch h.1 of line)

module _ (table : TableId) (about : About) (k : ℕ) where
  waiting_more : (jobs more : List Job) → AreWaiting table about k jobs → AreWaiting table about k more → AreWaiting table about k (jobs ++ more)
  waiting_more [] more h is = is
  waiting_more (j ∷ jobs) more h is = (h.0, waiting_more jobs more h.1 is)

  -- calls of a pass wait after the others
  pub calls_more : (p : ℕ) (jobs now batch : List Job) → AreWaiting table about k jobs → AreInPassTurn [] [] (tickets_of jobs) → IsBatch table about k p batch → now ≡ jobs ++ batch → AreWaiting table about k now × AreInPassTurn [] [] (tickets_of now)
  calls_more p jobs now batch waiting turn is items = (
    subst (AreWaiting table about k) (sym items) (waiting_more jobs batch waiting is.waiting),
    subst (AreInPassTurn [] []) (sym (ap tickets_of items ∙ tickets_append jobs batch)) (turn_batch p [] [] (tickets_of jobs) (tickets_of batch) turn is.pass is.line),
  )
