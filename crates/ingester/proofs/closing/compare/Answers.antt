use Rattle.std.proofs.Common.{◌≡◌, ◌<◌, sym, ap, ◌∙◌, subst, arith}
use Rattle.std.specs.Prelude.{Some, slice_get, length}
use Rattle.std.proofs.lemmas.Option.{slice_get_read}
use Rattle.ingester.specs.Closings.{IsComparedTo}
use Rattle.ingester.proofs.Comparing.{one_more, set_alike}
use Rattle.ingester.proofs.closing.compare.Goals as goal

pub loop-i-preserved : goal.loop-i-preserved
loop-i-preserved g c =
    let was = c.loop-i.invariant in
    let done = c.settle.ensures in
    let pass = c.index-passes-i.result in
    let at = c.index-passes-i.is in
    let same : c.settle.new.self ≡ pass = done.pass ∙ sym at in
    let within : c.loop-i.i < length c.loop-i.passes = omega arith in
    let there : slice_get c.args.passes.now c.loop-i.i ≡ Some pass = ap (λ l. slice_get l c.loop-i.i) (sym was.passes) ∙ slice_get_read c.loop-i.passes _ c.loop-i.i pass (λ _. length c.loop-i.passes) within at in
    let compared : IsComparedTo c.loop-i.shard.book pass = subst (IsComparedTo c.loop-i.shard.book) (sym at) (record { legal = done.legal; by_passes = done.by_passes; told = record { begins = done.begins; steps = done.steps } }) in
    record {
      passes = set_alike c.loop-i.passes c.loop-i.i pass c.settle.new.self same at ∙ was.passes;
      shard = done.shard ∙ was.shard;
      compared = one_more c.args.shard.now.book c.args.passes.now c.loop-i.i pass was.compared there (subst (λ s. IsComparedTo s.book pass) was.shard compared);
    }

pub returns-clause-compared : goal.returns-clause-compared
returns-clause-compared g c = λ i pass lt e. c.loop-i.invariant.compared i pass (omega arith) e
