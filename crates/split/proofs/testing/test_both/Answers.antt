use Rattle.std.proofs.lemmas.Result.{err_from_is_err_and}
use Rattle.split.proofs.Tests.{first_fault, second_if_err}
use Rattle.split.proofs.testing.test_both.Goals as goal

pub returns-in_err-test_slot-clause-fault : goal.returns-in_err-test_slot-clause-fault
returns-in_err-test_slot-clause-fault g c =
    let p = err_from_is_err_and c.from_residual.result c.from_residual.ensures.1 in
    rw (p.1, p.2) (first_fault g.D.Disk.sight g.D.Disk.follows c.args.shard c.args.first.now c.test_slot.new.disk c.args.second.now c.in_err-test_slot.field-0.0 c.in_err-test_slot.ensures.fault)

pub returns-clause-fault : goal.returns-clause-fault
returns-clause-fault g c =
    second_if_err g.D.Disk.sight g.D.Disk.follows c.test_slot-2.result c.args.shard c.args.first.now c.test_slot.new.disk c.args.second.now c.test_slot-2.new.disk c.in_ok-test_slot.ensures.empty c.test_slot-2.ensures.fault
