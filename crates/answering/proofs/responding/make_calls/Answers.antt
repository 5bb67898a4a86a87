use Rattle.std.proofs.Common.{subst}
use Rattle.answering.specs.Demands.{IsDemand}
use Rattle.answering.proofs.Going.{nothing, one_made, push_made}
use Rattle.answering.proofs.responding.make_calls.Goals as goal

pub returns-in-Nothing-clause-responds : goal.returns-in-Nothing-clause-responds
returns-in-Nothing-clause-responds g c route now tenant body asks =
    nothing (g.S.Calls.gives c.args.service.now) now tenant body route c.args.pass.now c.in-Nothing.why c.answer_of_uncalled.result (subst (IsDemand route now tenant body) c.in-Nothing.is asks) c.answer_of_uncalled.ensures

pub returns-in-One-clause-responds : goal.returns-in-One-clause-responds
returns-in-One-clause-responds g c route now tenant body asks =
    one_made (g.S.Calls.gives c.args.service.now) now tenant body route c.args.pass.now c.call-outcome.new.pass c.in-One.call c.call-outcome.result c.answer_of_one.result (subst (IsDemand route now tenant body) c.in-One.is asks) c.call-outcome.ensures.gives c.answer_of_one.ensures

pub returns-in-Streams-clause-responds : goal.returns-in-Streams-clause-responds
returns-in-Streams-clause-responds g c route now tenant body asks =
    push_made (g.S.Calls.gives c.args.service.now) now tenant body route c.args.pass.now c.push.new.pass c.in-Streams.streams c.push.result (subst (IsDemand route now tenant body) c.in-Streams.is asks) (c.push.ensures.responds now tenant body)
