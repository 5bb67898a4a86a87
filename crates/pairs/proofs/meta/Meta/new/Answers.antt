use Rattle.pairs.proofs.Metas.{fault_when_stuck}
use Rattle.pairs.proofs.meta.Meta.new.Goals as goal

pub returns-then-not-names_rise-clause-cause : goal.returns-then-not-names_rise-clause-cause
returns-then-not-names_rise-clause-cause c =
    fault_when_stuck c.args.pairs.items c.sort.new.pairs.items c.deref.result.now c.sort.ensures.permutation c.sort.ensures.sorted c.deref.ensures.value c.if-not-names_rise.ensures
