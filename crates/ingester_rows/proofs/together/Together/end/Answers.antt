use Rattle.ingester.specs.Calls.{IsPassOf}
use Rattle.ingester.proofs.Listing.{each_more}
use Rattle.ingester_rows.proofs.together.Together.end.Goals as goal

pub close-requires-clause-passes : goal.close-requires-clause-passes
close-requires-clause-passes g c = each_more (IsPassOf c.args.self.ingester) _ c.args.self.others.items c.args.self.pass c.in_ok-push.ensures.items c.args.self.of_others c.args.self.of_pass
