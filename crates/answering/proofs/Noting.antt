-- Lines that follow one another.
use Rattle.std.proofs.Common.{◌≡◌, ◌≢◌, ℕ, zero, suc, ◌+◌, ◌<◌, List, [], ◌∷◌, ◌++◌, length, get_or, Result, Ok, Err, OnOk, sym, ap, ◌∙◌, refl, subst, append_assoc, length-append, add-zero, zero-add, arith}
use Rattle.std.proofs.lemmas.List.{append-nil}
use Rattle.std.proofs.lemmas.List.Sums.{fold-append}
use Rattle.accept.specs.declared.outcome.Outcome.{Outcome}
use Rattle.requests.specs.declared.status.Status.TheVariants.{NoContent}
use Rattle.answering.specs.Calls.{Came}
use Rattle.answering.specs.declared.lines.PushLines.{PushLines}
use Rattle.answering.specs.Lines.{outcome_line, outcome_lines, came_lines, lines_from, worse_of, came_status}
use Rattle.answering.specs.Telling.{Tells}

both_none : (xs ys : List ℕ) → xs ++ ys ≡ [] → (xs ≡ []) × (ys ≡ [])
both_none [] ys none = (refl, none)
both_none (x ∷ xs) ys none = absurd (cc)

-- the outcome at k has a line, so the outcomes have one
pub said_among : (i j k : ℕ) (os : List Outcome) (d : Outcome) → k < length os → outcome_line i (j + k) (get_or os k d) ≢ [] → outcome_lines i j os ≢ []
said_among i j k [] d within said none = absurd (omega (arith, within))
said_among i j zero (p ∷ os) d within said none =
    said (subst (λ (n : ℕ). outcome_line i n p ≡ []) (sym (add-zero j)) (both_none (outcome_line i j p) (outcome_lines i (j + 1) os) none).0)
said_among i j (suc k) (p ∷ os) d within said none =
    let later : outcome_line i ((j + 1) + k) (get_or os k d) ≢ [] = subst (λ (n : ℕ). outcome_line i n (get_or os k d) ≢ []) (omega arith) said in
    said_among i (j + 1) k os d (omega arith) later (both_none (outcome_line i j p) (outcome_lines i (j + 1) os) none).1

-- one stream more
pub lines_push : (i : ℕ) (cs : List Came) (c : Came) → lines_from i (cs ++ c ∷ []) ≡ lines_from i cs ++ came_lines (i + length cs) c
lines_push i [] c = append-nil (came_lines i c) ∙ ap (λ k. came_lines k c) (sym (add-zero i))
lines_push i (d ∷ cs) c =
    let count : (i + 1) + length cs ≡ i + suc (length cs) = omega arith in
    ap (λ l. came_lines i d ++ l) (lines_push (i + 1) cs c) ∙ sym (append_assoc (came_lines i d) (lines_from (i + 1) cs) (came_lines ((i + 1) + length cs) c))
    ∙ ap (λ k. (came_lines i d ++ lines_from (i + 1) cs) ++ came_lines k c) count

pub on_ok : {E : Type 0} (r : Result (Unit {0}) E) (P Q : Type 0) → (P → Q) → OnOk r P → OnOk r Q
on_ok (Ok u) P Q f p = f p
on_ok (Err e) P Q f p = tt

pub noted : (cames : List Came) (c : Came) (old new : PushLines) → Tells cames old → new.streams ≡ old.streams + 1 → new.text.items ≡ old.text.items ++ came_lines old.streams c
    → new.status ≡ worse_of old.status (came_status c) → Tells (cames ++ c ∷ []) new
noted cames c old new tells count text status = record {
  streams = omega (arith, count, tells.streams, length-append cames (c ∷ []));
  text = text ∙ ap (λ l. l ++ came_lines old.streams c) tells.text ∙ ap (λ k. lines_from 0 cames ++ came_lines k c) (tells.streams ∙ sym (zero-add (length cames))) ∙ sym (lines_push 0 cames c);
  status = status ∙ ap (λ s. worse_of s (came_status c)) tells.status ∙ sym (fold-append (λ worst came. worse_of worst (came_status came)) NoContent cames (c ∷ []));
}
