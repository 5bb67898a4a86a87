-- The front of some calls, as it is announced.
use Rattle.std.proofs.Common.{◌≡◌, ℕ, suc, ◌+◌, List, [], ◌∷◌, ◌++◌, length, refl, sym, ap, ◌∙◌, subst, append_assoc, arith}
use Rattle.std.specs.Prelude.{All}
use Rattle.std.proofs.lemmas.List.{length_push}
use Rattle.accept.specs.Calls.{AreNumbers}
use Rattle.accept.specs.declared.call.Call.{Call}
use Rattle.accept.specs.declared.history.Ask.{Ask}
use Rattle.history.specs.Plays.{ask_of}
use Rattle.history.specs.Handles.{Passed}
use Rattle.ingester.specs.Calls.{with_next}
use Rattle.ingester.specs.Batches.{AreCountedFrom, IsNextOpen, AreSomeOpen}
use Rattle.ingester.proofs.Batching.{numbered_more}
use Rattle.ingester.proofs.Chaining.{announced_more}

-- the first call
pub some_first : (old new : Passed) (calls left : List Call) (number : ℕ) → old.caller.pending ≡ [] → IsNextOpen old new calls left number → AreSomeOpen old new calls left number 1
some_first old new calls left number idle h = record {
  front = h.call ∷ [];
  calls_are = h.calls_are;
  counted = refl;
  announced = (h.«open», h.pass);
  rested = h.rested idle;
  numbers = subst (AreCountedFrom number) (sym (ap (λ (p : Passed). p.caller.pending) h.pass ∙ ap (λ (l : List Ask). l ++ ask_of old.caller (old.caller.last + 1) h.call ∷ []) idle)) (sym h.number_is, tt);
}

-- one call more
pub some_more : (old mid new : Passed) (calls left rest : List Call) (first count number : ℕ) → AreSomeOpen old mid calls left first count → length mid.caller.pending ≡ count → first + count ≡ mid.caller.last + 1 → IsNextOpen mid new left rest number → AreSomeOpen old new calls rest first (count + 1)
some_more old mid new calls left rest first count number h long next n = record {
  front = h.front ++ n.call ∷ [];
  calls_are = h.calls_are ∙ ap (λ (l : List Call). h.front ++ l) n.calls_are ∙ sym (append_assoc h.front (n.call ∷ []) rest);
  counted = length_push h.front n.call ∙ ap (λ (m : ℕ). m + 1) h.counted;
  announced = announced_more old mid new h.front n.call h.announced n.«open» n.pass;
  rested = h.rested;
  numbers = subst (AreCountedFrom first) (sym (ap (λ (p : Passed). p.caller.pending) n.pass)) (numbered_more first mid.caller.pending (ask_of mid.caller (mid.caller.last + 1) n.call) h.numbers (omega arith));
}

pub first_waits : (old new : Passed) (call : Call) → old.caller.pending ≡ [] → new ≡ with_next old call → length new.caller.pending ≡ 1
first_waits old new call idle is = ap (λ (p : Passed). length p.caller.pending) is ∙ ap (λ (l : List Ask). length (l ++ ask_of old.caller (old.caller.last + 1) call ∷ [])) idle

pub more_wait : (old new : Passed) (call : Call) (n : ℕ) → length old.caller.pending ≡ n → new ≡ with_next old call → length new.caller.pending ≡ n + 1
more_wait old new call n long is = ap (λ (p : Passed). length p.caller.pending) is ∙ length_push old.caller.pending (ask_of old.caller (old.caller.last + 1) call) ∙ ap (λ (m : ℕ). m + 1) long

-- what holds of all calls holds of those after the first
pub left_numbers : (calls : List Call) (call : Call) (left : List Call) → calls ≡ call ∷ left → All AreNumbers calls → All AreNumbers left
left_numbers calls call left is all k d lt =
    let here : All AreNumbers (call ∷ left) = subst (All AreNumbers) is all in
    here (suc k) d (omega arith)
