use Rattle.std.proofs.Common.{sym, ap, ◌∙◌, ℕ, List, Vec, Global}
use Rattle.memory_disk.specs.Images.{contents}
use Rattle.memory_disk.specs.Beginnings.{open_bytes, each_longer}
use Rattle.memory_disk.proofs.CopyLemmas.{contents-append}
use Rattle.memory_disk.proofs.CountLemmas.{of_lengths-more, of_lengths-before, next-fronts}
use Rattle.memory_disk.proofs.images.all_contents.Goals as goal
use Rattle.memory_disk.proofs.images.all_contents.Goals.{then-i-low+in_ok-append, else-i-low}

pub loop-i-preserved : goal.loop-i-preserved
loop-i-preserved c =
    let options : ℕ → List ℕ = open_bytes c.args.mask.now c.args.now.now c.args.values.now in
    record {
      fronts = next-fronts options c.loop-i.i (contents c.loop-i.fronts.items) (contents c.in_ok-longer.longer.items) c.loop-i.invariant.fronts
          (c.in_ok-longer.ensures ∙ ap (λ (xs : List (Vec ℕ Global)). each_longer (contents xs) c.endings.result.now) c.deref.ensures.value
          ∙ ap (λ (vs : List ℕ). each_longer (contents c.loop-i.fronts.items) vs) c.endings.ensures);
      found = elim c.if-i-low.branch [
        | then-i-low+in_ok-append w ↦ ap (λ (v : Vec (Vec ℕ Global) Global). contents v.items) w.found-is
            ∙ of_lengths-more options c.args.low c.loop-i.i (contents c.loop-i.found.items) (contents w.append.new.self.items) (contents c.loop-i.fronts.items)
            w.if-i-low.true c.loop-i.invariant.found c.loop-i.invariant.fronts
            (ap contents w.in_ok-append.ensures.items ∙ contents-append c.loop-i.found.items c.loop-i.fronts.items)
        | else-i-low w ↦ ap (λ (v : Vec (Vec ℕ Global) Global). contents v.items) w.found-is ∙ c.loop-i.invariant.found
            ∙ sym (of_lengths-before options c.args.low c.loop-i.i w.if-i-low.false)
      ];
    }
