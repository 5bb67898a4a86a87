use Rattle.std.proofs.Common.{ℕ, sym, subst}
use Rattle.disk.specs.declared.file.FileDisk.{FileDisk}
use Rattle.programs.specs.declared.watched.Watched.{Watched}
use Rattle.tools.specs.Endings.{IsDueToCall, answered_call, stopped_call}
use Rattle.tools.proofs.ctl.run_ctl.Goals as goal

pub returns-in-Ok-clause-ends : goal.returns-in-Ok-clause-ends
returns-in-Ok-clause-ends g c =
    let a = c.in-Ok.ensures.answered in
    let due = subst (λ (capacity : ℕ). IsDueToCall (Watched FileDisk) c.in-Some.words c.in-Some-limits_by.limits capacity a.1 a.0) c.in-Some-capacity_by.ensures.says a.3 in
    answered_call c.in-Some.words c.in-Some.ensures.says a.1 a.2 c.in-Some-limits_by.limits (sym c.in-Some-limits_by.ensures.given) a.0 due a.4 a.5

pub returns-in-Err-clause-ends : goal.returns-in-Err-clause-ends
returns-in-Err-clause-ends g c = stopped_call c.in-Err.stopped c.in-Err.ensures.stopped c.status.ensures.cause
