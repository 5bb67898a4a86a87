use Rattle.std.proofs.Common.{◌++◌, ◌∷◌, [], not, refl, sym, ap, ◌∙◌, append_assoc, arith}
use Rattle.answering.proofs.Pushing.{next_called, next_uncalled}
use Rattle.answering.proofs.windows.Windows.fill.Goals.{then-is_none+in-Some, else-is_none}
use Rattle.answering.proofs.windows.Windows.fill.Goals as goal

pub loop-place-preserved : goal.loop-place-preserved
loop-place-preserved c =
    let inv = c.loop-place.invariant in
    let places = c.args.places.now in
    let k = c.loop-place.place-index in
    let calls = c.loop-place.self.calls.items in
    elim c.if-is_none.branch [
      | then-is_none+in-Some w ↦
          let next = next_called places k c.loop-place-test.true _ _ refl (c.is_none.ensures ∙ ap not w.if-is_none.true) in
          let call = w.in-Some.call in
          let left = w.pop_front.new.self.items in
          let popped = w.in-Some.ensures.len in
          let pushed = w.push_back_reserved.ensures.len in
          rw w.self-is (record {
            split = inv.split ∙ ap (λ l. calls ++ l) w.in-Some.ensures.items ∙ sym (append_assoc calls (call ∷ []) left) ∙ ap (λ l. l ++ left) (sym w.push_back_reserved.ensures.items);
            count = omega (arith, inv.count, next, pushed);
            left = omega (arith, inv.left, popped, pushed);
            outcomes = inv.outcomes;
            size = inv.size;
          })
      | else-is_none w ↦
          let next = next_uncalled places k c.loop-place-test.true _ _ refl (c.is_none.ensures ∙ ap not w.if-is_none.false) in
          rw w.self-is (record {
            split = inv.split;
            count = omega (arith, inv.count, next);
            left = inv.left;
            outcomes = inv.outcomes;
            size = inv.size;
          })
    ]

pub push_back_reserved-requires : goal.push_back_reserved-requires
push_back_reserved-requires c =
    let inv = c.loop-place.invariant in
    let next = next_called c.args.places.now c.loop-place.place-index c.loop-place-test.true _ _ refl (c.is_none.ensures ∙ ap not c.if-is_none.true) in
    omega (arith, inv.count, next, c.requires.room, c.loop-place.self.calls_fit, inv.size)
