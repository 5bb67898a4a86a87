use Rattle.std.proofs.Common.{arith, ◌≡◌, refl, ap, ◌∙◌, ◌++◌, [], ◌∷◌, List, ℕ, get_or}
use Rattle.std.proofs.lemmas.List.{take_all}
use Rattle.std.proofs.lemmas.Grind.{elements}
use Rattle.memory_disk.specs.Images.{contents}
use Rattle.memory_disk.specs.Beginnings.{extended}
use Rattle.memory_disk.proofs.CopyLemmas.{extended-more, longer-more}
use Rattle.memory_disk.proofs.images.with_each.Goals as goal

pub loop-value-preserved : goal.loop-value-preserved
loop-value-preserved c =
    let copy : c.in_ok-next.next.items ≡ c.front-item.result.items = grind (arith, elements) in
    extended-more c.loop-value.all.items _ (contents c.loop-front.all.items) c.front-item.result c.push.new.self c.args.values.now c.loop-value.value-index _
    c.loop-value.invariant c.loop-value-test.true refl (c.in_ok-push.ensures.items ∙ ap (λ (xs : List ℕ). xs ++ get_or c.args.values.now c.loop-value.value-index 0 ∷ []) copy) c.in_ok-push-2.ensures.items

pub loop-front-preserved : goal.loop-front-preserved
loop-front-preserved c = longer-more c.loop-front.all.items _ c.args.fronts.now c.args.values.now c.loop-front.front-index c.front-item.result
    c.loop-front.invariant c.loop-front-test.true c.front-item.is
    (c.loop-value.invariant ∙ ap (λ (vs : List ℕ). contents c.loop-front.all.items ++ extended c.front-item.result.items vs) (take_all c.loop-value.value-index c.args.values.now c.loop-value-test.false))
