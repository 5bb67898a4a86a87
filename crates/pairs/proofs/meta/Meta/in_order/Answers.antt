use Rattle.pairs.proofs.Metas.{rise_nowhere_stuck}
use Rattle.pairs.proofs.meta.Meta.in_order.Goals as goal

pub returns-then-not-names_rise-clause-pairs : goal.returns-then-not-names_rise-clause-pairs
returns-then-not-names_rise-clause-pairs c = rise_nowhere_stuck c.deref.result.now c.args.pairs.items c.deref.ensures.value c.if-not-names_rise.ensures
