use Rattle.std.proofs.Common.{inr}
use Rattle.labels.proofs.Lawful.{twice_from, canonical_from}
use Rattle.labels.proofs.writing.canonical_text.Goals as goal

pub returns-then-not-names_rise-clause-cause : goal.returns-then-not-names_rise-clause-cause
returns-then-not-names_rise-clause-cause c =
    inr (twice_from c.args.pairs.items c.deref.result.now _ _ c.deref.ensures.value c.in_default.ensures.none c.sort.ensures.permutation c.sort.ensures.sorted c.deref-2.ensures.value c.if-not-names_rise.ensures)

pub returns-clause-ok : goal.returns-clause-ok
returns-clause-ok c =
    canonical_from c.args.pairs.items c.deref.result.now _ _ _ _ c.deref.ensures.value c.in_default.ensures.none c.sort.ensures.permutation c.deref-2.ensures.value c.if-not-names_rise.ensures c.deref-3.ensures.value c.in_ok-set_text.ensures
