use Rattle.std.proofs.Common.{refl}
use Rattle.walsplit.proofs.program.split_slots.Goals as goal

pub returns-in-Err-clause-cause : goal.returns-in-Err-clause-cause
returns-in-Err-clause-cause g c = (c.in-Err.fault, c.in-Err._slots, refl, c.in-Err.ensures.cause)
