-- What the test of several open calls rests on.
use Rattle.std.proofs.Common.{◌≡◌, ◌≢◌, ℕ, ◌+◌, List, [], ◌∷◌, ◌++◌, Bool, true, false, cond, eqb, refl, sym, ap, ◌∙◌, subst, inr, ⊎_elim, append-nil, ne_eqb, eq-eqb}
use Rattle.atomic_table.specs.Seated.{TableId}
use Rattle.labels.specs.Shards.{shard}
use Rattle.labels.specs.declared.key.StreamKey.{StreamKey}
use Rattle.accept.specs.declared.call.Call.{Call}
use Rattle.accept.specs.declared.call.Reply.{Reply}
use Rattle.accept.specs.declared.history.Ask.{Ask}
use Rattle.accept.specs.declared.history.Step.{Step}
use Rattle.accept.specs.declared.history.Item.TheVariants.{Answered}
use Rattle.accept.specs.Histories.{key_of}
use Rattle.history.specs.declared.views.About.{About}
use Rattle.history.specs.Shards.{shard_of}
use Rattle.history.specs.Histories.{shard_in, step_of, HaveSteps, asks_on}
use Rattle.history.specs.Plays.{ask_of, announce_to, IsRested}
use Rattle.history.specs.Handles.{Booked, Passed, Received, longer}
use Rattle.threads.specs.Windows.{asks_received, AreTo, IsWindow, with_step_of_shard}
use Rattle.history.proofs.Past.{have_more, have_last, made_now}

cond_asks : (b : Bool) (a : Ask) (xs ys : List Ask) → cond b (a ∷ (xs ++ ys)) (xs ++ ys) ≡ cond b (a ∷ xs) xs ++ ys
cond_asks true a xs ys = refl
cond_asks false a xs ys = refl

asks_on_append : (about : About) (k : ℕ) (xs ys : List Ask) → asks_on about k (xs ++ ys) ≡ asks_on about k xs ++ asks_on about k ys
asks_on_append about k [] ys = refl
asks_on_append about k (a ∷ xs) ys = ap (λ l. cond (eqb k (shard_in about a)) (a ∷ l) l) (asks_on_append about k xs ys) ∙ cond_asks (eqb k (shard_in about a)) a (asks_on about k xs) (asks_on about k ys)

-- the shard of a call among two
pub at_shard : (about : About) (a : Ask) (call : Call) (key : StreamKey) (n k : ℕ) → a.call ≡ call → about.shards ≡ 2 → key ≡ key_of call → n ≡ shard key 2 → n ≡ k → shard_in about a ≡ k
unfolding shard_of
at_shard about a call key n k e two is at it = (λ i. shard (key_of (e i)) (two i)) ∙ ap (λ (x : StreamKey). shard x 2) (sym is) ∙ sym at ∙ it

pub with_step_here : (about : About) (k : ℕ) (book : Booked) (s : Step) → k ≡ shard_in about s.ask → with_step_of_shard about k book s ≡ longer book (Answered s)
with_step_here about k book s here = ap (λ (b : Bool). cond b (longer book (Answered s)) book) (eq-eqb k (shard_in about s.ask) here)

pub with_step_there : (about : About) (k : ℕ) (book : Booked) (s : Step) → k ≢ shard_in about s.ask → with_step_of_shard about k book s ≡ book
with_step_there about k book s there = ap (λ (b : Bool). cond b (longer book (Answered s)) book) (ne_eqb k (shard_in about s.ask) there)

had_one : (about : About) (k : ℕ) (pending : List Ask) (a : Ask) (r : Reply) (book : Booked) (b : Bool) → HaveSteps (asks_on about k pending) book.items → HaveSteps (asks_on about k pending ++ cond b (a ∷ []) []) (cond b (longer book (Answered (step_of a r))) book).items
had_one about k pending a r book true had =
    have_last (asks_on about k pending) a (book.items ++ Answered (step_of a r) ∷ []) (have_more (asks_on about k pending) book.items (Answered (step_of a r) ∷ []) had) (made_now (step_of a r) book.items)
had_one about k pending a r book false had = subst (λ (l : List Ask). HaveSteps l book.items) (sym (append-nil (asks_on about k pending))) had

-- one open call more, whose step is in the book of its shard
pub had_more : (about : About) (k : ℕ) (pending pending' : List Ask) (a : Ask) (r : Reply) (book book' : Booked) → pending' ≡ pending ++ a ∷ [] → book' ≡ with_step_of_shard about k book (step_of a r) → HaveSteps (asks_on about k pending) book.items → HaveSteps (asks_on about k pending') book'.items
had_more about k pending pending' a r book book' more is had =
    subst (λ (z : List Ask × Booked). HaveSteps (asks_on about k z.0) z.1.items) (λ i. (sym more i, sym is i))
    (subst (λ (l : List Ask). HaveSteps l (with_step_of_shard about k book (step_of a r)).items) (sym (asks_on_append about k pending (a ∷ []))) (had_one about k pending a r book (eqb k (shard_in about a)) had))

asks_last : (rs : List Received) (r : Received) → asks_received (rs ++ r ∷ []) ≡ asks_received rs ++ r.step.ask ∷ []
asks_last [] r = refl
asks_last (x ∷ rs) r = ap (λ l. x.step.ask ∷ l) (asks_last rs r)

to_last : (table : TableId) (p : ℕ) (rs : List Received) (r : Received) → AreTo table p rs → r.table ≡ table → r.step.ask.pass ≡ p → AreTo table p (rs ++ r ∷ [])
to_last table p [] r h t q = (t, q, tt)
to_last table p (x ∷ rs) r h t q = (h.0, h.1, to_last table p rs r h.2 t q)

-- one call more is open, and answered
pub window_more : (table : TableId) (about : About) (pass pass' : Passed) (call : Call) (rs rs' : List Received) (r : Received) → IsWindow table about pass rs → pass' ≡ record pass { caller = announce_to pass.caller (pass.caller.last + 1) call }
    → rs' ≡ rs ++ r ∷ [] → r.table ≡ table → r.step.ask ≡ ask_of pass.caller (pass.caller.last + 1) call → (pass.caller.pending ≡ [] → IsRested pass.caller) → IsWindow table about pass' rs'
window_more table about pass pass' call rs rs' r h is more at its rested = subst (λ (z : Passed × List Received). IsWindow table about z.0 z.1) (λ i. (sym is i, sym more i)) (record {
  table_is = h.table_is;
  about_is = h.about_is;
  answers_are = asks_last rs r ∙ (λ i. h.answers_are i ++ its i ∷ []);
  theirs = to_last table pass.caller.pass rs r h.theirs at (ap (λ (a : Ask). a.pass) its);
  rested = inr (⊎_elim (λ (e : pass.caller.pending ≡ []). rested e) (λ (q : IsRested pass.caller). q) h.rested);
})
