use Rattle.std.proofs.Common.{◌<◌, length, ◌∙◌, arith}
use Rattle.std.proofs.lemmas.Result.{err_from_is_err_and}
use Rattle.split.specs.Stages.{IsTested}
use Rattle.split.proofs.Pairs.{more_done}
use Rattle.split.proofs.Tests.{tests_stop, test_cause}
use Rattle.split.proofs.testing.test_all.Goals as goal

pub returns-in_err-test_at-clause-rests : goal.returns-in_err-test_at-clause-rests
returns-in_err-test_at-clause-rests g c =
    tests_stop g.D.Disk.sight g.D.Disk.follows (λ disk t x y. g.met.D.Disk.only_now disk t x y) c.loop-shard.shard c.args.new.now.items c.loop-shard.new.items c.test_at.new.new.items c.loop-shard.invariant.done c.test_at.ensures.set c.test_at.ensures.rests

pub returns-in_err-test_at-clause-cause : goal.returns-in_err-test_at-clause-cause
returns-in_err-test_at-clause-cause g c =
    let p = err_from_is_err_and c.from_residual.result c.from_residual.ensures.1 in
    let within : c.loop-shard.shard < length c.args.new.now.items = let a = c.loop-shard-test.true in let b = c.len-shard-end.ensures in let e = c.args.new.now.ok.0 in let f = c.requires.few in omega arith in
    rw (p.1, p.2) (λ cap old old_back read. test_cause g.D.Disk.sight g.D.Disk.follows (λ disk t x y. g.met.D.Disk.only_now disk t x y) c.loop-shard.shard c.args.new.now.items c.loop-shard.new.items c.test_at.new.new.items c.in_err-test_at.field-0.0 within c.loop-shard.invariant.done c.test_at.ensures.set c.test_at.ensures.rests c.in_err-test_at.ensures.fault cap old old_back read)

pub loop-shard-preserved : goal.loop-shard-preserved
loop-shard-preserved g c = record {
  len = c.test_at.ensures.len ∙ c.loop-shard.invariant.len;
  done = more_done (λ _. IsTested g.D.Disk.sight g.D.Disk.follows) (λ _. IsTested g.D.Disk.sight g.D.Disk.follows) c.loop-shard.shard c.args.new.now.items c.loop-shard.new.items c.test_at.new.new.items _ c.loop-shard.invariant.done c.test_at.ensures.set (λ s given back lt tested. tested) c.in_ok-test_at.ensures.tested;
}
