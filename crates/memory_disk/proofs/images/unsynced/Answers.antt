use Rattle.std.proofs.Common.{rules, arith, ap, ◌∙◌, ◌≤◌, ◌+◌, ◌≡◌, [], length, Vec, Global, Bool, List, false, get_or}
use Rattle.std.proofs.lemmas.List.{with_items_is}
use Rattle.memory_disk.proofs.MaskLemmas.{Marks, range-within, marked-write, marked-sync}
use Rattle.memory_disk.proofs.images.unsynced.Goals as goal
use Rattle.memory_disk.proofs.images.unsynced.Goals.{in-Wrote, in-Synced}

pub mark-requires-in-Wrote : goal.mark-requires-in-Wrote
mark-requires-in-Wrote c =
    let ends : c.in-Wrote.at + c.in-Wrote.len ≤ c.args.len = range-within [] c.args.since.now c.loop-step.step-index c.in-Wrote.at c.in-Wrote.len c.args.len _ c.requires.within c.loop-step-test.true c.in-Wrote.is in
    omega (arith, ends, c.loop-step.invariant.long, ap length c.deref_mut-in-Wrote.ensures.value)

pub loop-step-preserved : goal.loop-step-preserved
loop-step-preserved c =
    elim c.match-step.branch [
      | in-Wrote w ↦ (let same : c.match-step.mask.items ≡ w.mark-in-Wrote.new.mask
          = ap (λ (v : Vec Bool Global). v.items) w.mask-is ∙ with_items_is c.loop-step.mask w.mark-in-Wrote.new.mask (search rules) in
          let was : w.deref_mut-in-Wrote.result.now ≡ c.loop-step.mask.items = w.deref_mut-in-Wrote.ensures.value in
          let mark : Marks w.in-Wrote.at w.in-Wrote.len c.loop-step.mask.items c.match-step.mask.items = record {
            long = ap length same ∙ w.mark-in-Wrote.auto.mask ∙ ap length was;
            within = λ i from below. ap (λ (xs : List Bool). get_or xs i false) same ∙ w.mark-in-Wrote.ensures.within i from below;
            outside = λ i apart. ap (λ (xs : List Bool). get_or xs i false) same ∙ w.mark-in-Wrote.ensures.outside i apart ∙ ap (λ (xs : List Bool). get_or xs i false) was;
          } in
          record {
            long = mark.long ∙ c.loop-step.invariant.long;
            marks = marked-write c.args.synced_len w.in-Wrote.at w.in-Wrote.len c.loop-step.step-index c.args.since.now _ c.loop-step.mask.items c.match-step.mask.items
                c.loop-step.invariant.marks mark c.loop-step-test.true w.in-Wrote.is;
          })
      | in-Synced w ↦ rw w.mask-is (record {
        long = c.loop-step.invariant.long;
        marks = marked-sync c.args.synced_len c.loop-step.step-index c.args.since.now _ c.loop-step.mask.items c.loop-step.invariant.marks c.loop-step-test.true w.in-Synced.is;
      })
    ]
