use Rattle.std.proofs.Common.{refl, sym}
use Rattle.tools.specs.Endings.{answered_push, stopped_push}
use Rattle.tools.proofs.ingest1.run_ingest1.Goals as goal

pub returns-in-Err-clause-ends : goal.returns-in-Err-clause-ends
returns-in-Err-clause-ends g c = stopped_push c.in-Err.stopped c.in-Err.ensures.refused c.status.ensures.cause

pub returns-clause-ends : goal.returns-clause-ends
returns-clause-ends g c =
    let pushed = c.in_default-push_and_read.ensures.pushed in
    answered_push c.in-Some.now c.in-Some.ensures.says pushed.1 pushed.3 c.in-Some-limits_by.limits (sym c.in-Some-limits_by.ensures.given) pushed.0 pushed.4 pushed.2 pushed.5 refl
