use Rattle.std.specs.Prelude.{codes, None}
use Rattle.requests.specs.declared.route.Route.TheVariants.{Push}
use Rattle.programs.specs.Words.{capacity_of}
use Rattle.tools.specs.Endings.{IsAnswerDue}
use Rattle.tools.proofs.Outputs.{then_back, answer_alone}
use Rattle.tools.proofs.ingest1.push_body.Goals as goal

pub returns-then-eq-clause-pushed : goal.returns-then-eq-clause-pushed
returns-then-eq-clause-pushed g c =
    answer_alone (IsAnswerDue c.args.ingester.now c.args.ingester.now.about.limits 1 (capacity_of None) Push c.args.now (codes "t") c.args.body.now) _ _ c.in_ok-pushed.pushed
    (record { before = c.args.pass.now; after = c.answer_push.new.pass; opened = c.requires.opened; answers = c.in_ok-pushed.ensures.answers })
    c.in_ok-write_answer.ensures.written

pub returns-clause-pushed : goal.returns-clause-pushed
returns-clause-pushed g c =
    then_back (IsAnswerDue c.args.ingester.now c.args.ingester.now.about.limits 1 (capacity_of None) Push c.args.now (codes "t") c.args.body.now) c.read_back.result (g.W.Write.contents c.args.output.now) (g.W.Write.contents c.write_answer.new.output) (g.W.Write.contents c.read_back.new.output) c.in_ok-pushed.pushed
    (record { before = c.args.pass.now; after = c.answer_push.new.pass; opened = c.requires.opened; answers = c.in_ok-pushed.ensures.answers })
    c.in_ok-write_answer.ensures.written c.read_back.ensures.written
