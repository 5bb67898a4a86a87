use Rattle.std.proofs.Common.{◌≢◌, [], arith}
use Rattle.std.proofs.lemmas.Grind.{common_steps}
use Rattle.requests.proofs.Saying.{behind, told_so, waits}
use Rattle.requests.proofs.outbox.Outbox.say_answer.Goals as goal

pub returns-clause-fault : goal.returns-clause-fault
returns-clause-fault c =
    let o = c.self.inside in
    let some : o.text.items ≢ [] = grind (arith, common_steps) in
    let (there, none) = behind o.gone o.text.items o.last.now c.self.invariant.1 some in
    told_so c.push_text-said.result (c.args.self.now ≢ []) c.push_text-said.ensures.cause (rw (← c.self.view_is) (waits o.gone o.text.items o.last.now there))
