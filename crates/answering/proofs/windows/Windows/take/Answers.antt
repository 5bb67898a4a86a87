use Rattle.std.proofs.Common.{◌≡◌, length, arith}
use Rattle.accept.specs.Calls.{AreNumbers}
use Rattle.answering.specs.Windows.{called}
use Rattle.answering.proofs.Pushing.{parted, window_taken}
use Rattle.answering.proofs.windows.Windows.take.Goals as goal

pub call_all-requires-clause-numbers : goal.call_all-requires-clause-numbers
call_all-requires-clause-numbers g c =
    let filled = c.fill.new.self in
    (parted AreNumbers c.args.self.now.left.items filled.calls.items filled.left.items c.fill.ensures.split c.requires.numbers).0

pub returns-clause-goes : goal.returns-clause-goes
returns-clause-goes g c h tenant all more taken =
    let filled = c.fill.new.self in
    let gives = g.S.Calls.gives c.args.service.now in
    let outcomes = c.call_all.new.outcomes.items in
    let count : length filled.calls.items ≡ called c.args.places.now = omega (arith, filled.calls.ok.0, c.fill.ensures.count) in
    let due : called c.args.places.now ≡ length outcomes = omega (arith, c.call_all.new.outcomes.ok.0, c.call_all.ensures.lens.1, c.fill.ensures.count) in
    window_taken gives tenant h all c.args.pass.now c.call_all.new.pass c.args.places.now more c.args.self.now.left.items filled.calls.items filled.left.items outcomes c.args.lines.now c.note_streams-noted.new.lines taken c.fill.ensures.split count due c.requires.next.few c.call_all.ensures.given c.note_streams-noted.result c.note_streams-noted.ensures.noted

pub returns-clause-numbers : goal.returns-clause-numbers
returns-clause-numbers g c =
    let filled = c.fill.new.self in
    (parted AreNumbers c.args.self.now.left.items filled.calls.items filled.left.items c.fill.ensures.split c.requires.numbers).1
