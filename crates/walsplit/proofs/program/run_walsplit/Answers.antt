use Rattle.std.proofs.Common.{refl}
use Rattle.walsplit.specs.Endings.{divided_split, stopped_split}
use Rattle.walsplit.proofs.Within.{divided_by}
use Rattle.walsplit.proofs.program.run_walsplit.Goals as goal

pub returns-in-Err-clause-ends : goal.returns-in-Err-clause-ends
returns-in-Err-clause-ends g c = stopped_split c.in-Err.stopped c.in-Err.ensures.stopped c.status.ensures.cause

pub returns-clause-ends : goal.returns-clause-ends
returns-clause-ends g c =
    let said = c.in_default-split_and_print.ensures.said in
    let divided = divided_by _ _ _ _ _ _ c.in-Some-capacity_in.ensures.says said.3 in
    divided_split c.in-Some.words c.in-Some.ensures.says said.0 said.1 said.2 divided said.4 refl
