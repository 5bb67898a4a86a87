use Rattle.answering.proofs.Joining.{one_connection, one_text, apart, same_requests}
use Rattle.answering.proofs.laws.visits_join.Goals as goal

pub returns-clause-joined : goal.returns-clause-joined
returns-clause-joined g c service = one_connection (g.S.Calls.gives service) g.C.Clock.ticks

pub returns-clause-texts : goal.returns-clause-texts
returns-clause-texts g c visits = one_text visits

pub returns-clause-in_one : goal.returns-clause-in_one
returns-clause-in_one g c service = apart (g.S.Calls.gives service) g.C.Clock.ticks

pub returns-clause-same : goal.returns-clause-same
returns-clause-same g c service = same_requests (g.S.Calls.gives service) g.C.Clock.ticks
