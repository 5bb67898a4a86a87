use Rattle.std.proofs.Common.{rules, arith, sym, ap, ◌∙◌, ◌≡◌, ◌+◌, ◌-◌, ℕ, length, true, false}
use Rattle.memory_disk.specs.Beginnings.{open_bytes, of_lengths}
use Rattle.memory_disk.proofs.CountLemmas.{of_lengths-before, too-many-so-far, too-many-fronts, counted-fronts, counted-all, some-total}
use Rattle.memory_disk.proofs.images.number_of.Goals as goal
use Rattle.memory_disk.proofs.images.number_of.Goals.{then-i-low+in_ok-all, else-i-low, then-is_unsynced+in_ok-fronts, else-is_unsynced}

pub returns-in_err-all-clause-none : goal.returns-in_err-all-clause-none
returns-in_err-all-clause-none c none now =
    too-many-so-far (open_bytes c.args.mask.now now c.args.values.now) c.args.low c.loop-i.i (length c.args.mask.now) c.loop-i.all c.loop-i.fronts
    c.if-i-low.true (omega arith) (c.loop-i.invariant.all now) (c.loop-i.invariant.fronts now) (search rules)

pub returns-in_err-fronts-clause-none : goal.returns-in_err-fronts-clause-none
returns-in_err-fronts-clause-none c none now =
    too-many-fronts c.args.mask.now now c.args.values.now c.args.low c.loop-i.i (length c.args.mask.now) c.loop-i.fronts
    c.requires (omega arith) (c.loop-i.invariant.fronts now) c.if-is_unsynced.true (search rules)

pub loop-i-preserved : goal.loop-i-preserved
loop-i-preserved c = record {
  fronts = λ now. elim c.if-is_unsynced.branch [
    | then-is_unsynced+in_ok-fronts w ↦ counted-fronts c.args.mask.now now c.args.values.now c.loop-i.i c.loop-i.fronts c.if-is_unsynced.fronts true
        (c.loop-i.invariant.fronts now) w.if-is_unsynced.true (w.fronts-is ∙ w.in_ok-fronts.ensures.1)
    | else-is_unsynced w ↦ counted-fronts c.args.mask.now now c.args.values.now c.loop-i.i c.loop-i.fronts c.if-is_unsynced.fronts false
        (c.loop-i.invariant.fronts now) w.if-is_unsynced.false (omega (arith, w.fronts-is))
  ];
  all = λ now. elim c.if-i-low.branch [
    | then-i-low+in_ok-all w ↦ w.all-is ∙ w.in_ok-all.ensures.1 ∙ counted-all (open_bytes c.args.mask.now now c.args.values.now) c.args.low c.loop-i.i c.loop-i.all c.loop-i.fronts
        w.if-i-low.true (c.loop-i.invariant.all now) (c.loop-i.invariant.fronts now)
    | else-i-low w ↦ w.all-is ∙ c.loop-i.invariant.all now ∙ sym (ap length (of_lengths-before (open_bytes c.args.mask.now now c.args.values.now) c.args.low c.loop-i.i w.if-i-low.false))
  ];
}

pub returns-clause-exact : goal.returns-clause-exact
returns-clause-exact c =
    let at_end : c.loop-i.i ≡ length c.args.mask.now = omega arith in
    some-total c.checked_add-2.result (c.loop-i.all + c.loop-i.fronts)
    (λ now. length (of_lengths (open_bytes c.args.mask.now now c.args.values.now) c.args.low (length c.args.mask.now - c.args.low + 1)))
    c.checked_add-2.ensures
    (λ now. counted-all (open_bytes c.args.mask.now now c.args.values.now) c.args.low c.loop-i.i c.loop-i.all c.loop-i.fronts
    (omega (arith, c.requires)) (c.loop-i.invariant.all now) (c.loop-i.invariant.fronts now)
    ∙ ap (λ (k : ℕ). length (of_lengths (open_bytes c.args.mask.now now c.args.values.now) c.args.low k))
    (let e : c.loop-i.i + 1 - c.args.low ≡ length c.args.mask.now - c.args.low + 1 = omega (arith, c.requires) in e))

pub returns-clause-none : goal.returns-clause-none
returns-clause-none c none now =
    too-many-so-far (open_bytes c.args.mask.now now c.args.values.now) c.args.low c.loop-i.i (length c.args.mask.now) c.loop-i.all c.loop-i.fronts
    (omega (arith, c.requires)) (omega arith) (c.loop-i.invariant.all now) (c.loop-i.invariant.fronts now) (search rules)
