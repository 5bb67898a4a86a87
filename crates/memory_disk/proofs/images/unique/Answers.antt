use Rattle.std.proofs.Common.{List, ℕ, Contains, ◌↔◌, subst}
use Rattle.std.proofs.lemmas.List.{take_all}
use Rattle.memory_disk.proofs.Lists.{unique-add}
use Rattle.memory_disk.proofs.images.unique.Goals as goal

pub returns-clause-same : goal.returns-clause-same
returns-clause-same c v = subst (λ (vs : List ℕ). (Contains c.loop-value.found.items v) ↔ (Contains vs v))
    (take_all c.loop-value.value-index c.args.values.now c.loop-value-test.false) (c.loop-value.invariant.same v)

pub loop-value-preserved : goal.loop-value-preserved
loop-value-preserved c =
    unique-add c.args.values.now c.loop-value.found.items c.add.new.found.items c.loop-value.value-index
    c.loop-value-test.true c.loop-value.invariant c.in_ok-add.ensures.same c.in_ok-add.ensures.once
