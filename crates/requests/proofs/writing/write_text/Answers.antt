use Rattle.std.proofs.Common.{◌≡◌, ℕ, ◌+◌, ◌-◌, List, ◌++◌, length, take, drop, arith, sym, ap, ◌∙◌, subst, length-drop}
use Rattle.std.proofs.lemmas.List.{take_rest}
use Rattle.std.specs.Io.KnownBytes.{Appends}
use Rattle.std.proofs.KnownBytes.{Appends-trans, Appends-kept}
use lib.Seq.{take-add}
use Rattle.requests.proofs.writing.write_text.Goals.{in-Ok, in-Err+else-ne}
use Rattle.requests.proofs.writing.write_text.Goals as goal

length-rest : (done : ℕ) (text : List ℕ) → length (take (length text - done) (drop done text)) ≡ length text - done
length-rest done text = ap length (take_rest text done) ∙ length-drop done text

-- a piece of what is left
one_more : (done n : ℕ) (text : List ℕ) → take done text ++ take n (take (length text - done) (drop done text)) ≡ take (done + n) text
one_more done n text = ap (λ l. take done text ++ take n l) (take_rest text done) ∙ sym (take-add done n text)

pub loop-turn-preserved : goal.loop-turn-preserved
loop-turn-preserved g c =
    let done = c.loop-turn.done in
    let text = c.args.text.now in
    elim c.match-write.branch [
      | in-Ok w ↦
          rw w.done-is (
            omega (arith, w.in-Ok.ensures.bound, length-rest done text),
            subst (Appends _ _) (one_more done w.in-Ok.count text) (Appends-trans _ _ _ _ _ c.loop-turn.invariant.1 w.in-Ok.ensures.bytes),
          )
      | in-Err+else-ne w ↦ rw w.done-is (c.loop-turn.invariant.0, Appends-kept _ _ _ _ c.loop-turn.invariant.1 w.in-Err.ensures.bytes)
    ]
