use Rattle.std.proofs.Common.{◌≡◌, ◌≢◌, ℕ, ◌+◌, List, [], ◌∷◌, ◌++◌, Bool, cond, refl, sym, ap, ◌∙◌, subst, eq-eqb, ne_eqb}
use Rattle.history.proofs.Common.{Ask, About, Caller, shard_in, asks_on, IsFirstNumber, ask_of, announce_to, IsNextOn}
use Rattle.history.proofs.laws.refuse_beside.Goals as goal

second_there : (about : About) (k : ℕ) (qs : List Ask) (a b : Ask) → qs ≡ [] → k ≢ shard_in about a → k ≡ shard_in about b → IsFirstNumber b.number (asks_on about k ((qs ++ a ∷ []) ++ b ∷ []))
second_there about k qs a b none n e = subst (λ (l : List Ask). IsFirstNumber b.number (asks_on about k ((l ++ a ∷ []) ++ b ∷ []))) (sym none)
    (subst (λ (t : Bool × Bool). IsFirstNumber b.number (cond t.0 (a ∷ cond t.1 (b ∷ []) []) (cond t.1 (b ∷ []) []))) (λ i. (sym (ne_eqb k (shard_in about a) n) i, sym (eq-eqb k (shard_in about b) e) i)) refl)

pub collect_there-requires-clause-next : goal.collect_there-requires-clause-next
collect_there-requires-clause-next g c =
    let p : Caller = c.args.pass.now.caller in
    let one = c.args.one.now in
    let two = c.args.two.now in
    let k = c.args.book.now.shard in
    let n : ℕ = p.last + 1 in
    let d : Caller = announce_to (announce_to p n one) (n + 1) two in
    let first = c.in_ok-first.ensures.pass in
    let mid : c.announce-2.new.pass.caller ≡ d = ap (λ q. q.caller) c.in-Ok.ensures.pass ∙ ap (λ q. announce_to q.caller (q.caller.last + 1) two) first in
    let number : c.refuse-answer.result.1.step.ask.number ≡ n + 1 = ap (λ r. r.step.ask.number) c.refuse-answer.ensures.receipt ∙ ap (λ t. t.ask.number) c.in-Ok.ensures.ticket ∙ ap (λ q. q.caller.last + 1) first in
    let next : IsNextOn d (n + 1) k = (
      second_there p.about k p.pending (ask_of p n one) (ask_of p (n + 1) two) c.requires.idle (λ e. c.requires.one (sym e)) (sym c.requires.two),
      c.in_ok-first.ensures.rested_there k (ap (λ (l : List Ask). asks_on p.about k l) c.requires.idle),
    ) in
    (k, subst (λ (z : Caller × ℕ). IsNextOn z.0 z.1 k) (λ i. (sym mid i, sym number i)) next)
