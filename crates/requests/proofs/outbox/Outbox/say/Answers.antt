use Rattle.std.proofs.Common.{◌≢◌, [], arith}
use Rattle.std.proofs.lemmas.Grind.{common_steps}
use Rattle.requests.proofs.Saying.{added, behind, told_so, waits}
use Rattle.requests.proofs.outbox.Outbox.say.Goals as goal

pub returns-clause-writes : goal.returns-clause-writes
returns-clause-writes c =
    let o = c.self.inside in
    let some : o.text.items ≢ [] = grind (arith, common_steps) in
    let (there, none) = behind o.gone o.text.items o.last.now c.self.invariant.1 some in
    rw (← c.self.view_is) (added o.gone o.text.items c.push_text.new.all.items c.args.text.now o.last.now c.self.invariant.0 none c.push_text.result c.push_text.ensures.ok c.push_text.ensures.err c.push_text.ensures.cause)

pub returns-clause-fault : goal.returns-clause-fault
returns-clause-fault c =
    let o = c.self.inside in
    let some : o.text.items ≢ [] = grind (arith, common_steps) in
    let (there, none) = behind o.gone o.text.items o.last.now c.self.invariant.1 some in
    told_so c.push_text.result (c.args.self.now ≢ []) c.push_text.ensures.cause (rw (← c.self.view_is) (waits o.gone o.text.items o.last.now there))
