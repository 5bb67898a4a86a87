use Rattle.std.proofs.Common.{refl}
use Rattle.front.specs.Endings.{ended_server, stopped_server}
use Rattle.front.proofs.server.run_server.Goals as goal

pub returns-in-Err-clause-ends : goal.returns-in-Err-clause-ends
returns-in-Err-clause-ends g c = stopped_server c.in-Some.words c.in-Some.ensures.says c.in-Err.stopped c.in-Err.ensures.stopped c.status.ensures.cause

pub returns-in-Ok-clause-ends : goal.returns-in-Ok-clause-ends
returns-in-Ok-clause-ends g c = ended_server c.in-Some.words c.in-Some.ensures.says c.in-Ok.ensures.served c.in-Ok._served c.in-Ok.ensures.ends c.in-Ok.ensures.over refl
