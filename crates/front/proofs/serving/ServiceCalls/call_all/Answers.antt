use Rattle.front.proofs.Telling.{all_told}
use Rattle.front.proofs.serving.ServiceCalls.call_all.Goals as goal

pub returns-clause-given : goal.returns-clause-given
returns-clause-given g c = all_told c.args.pass.now c.call_all.new.pass c.args.calls.now.items c.call_all.new.outcomes.items c.call_all.ensures.given
