use Rattle.std.proofs.Common.{false}
use Rattle.answering.specs.Gathering.{known}
use Rattle.answering.specs.Serving.{world}
use Rattle.front.specs.declared.connections.KeptConnection.{KeptConnection}
use Rattle.front.proofs.Batches.{each_was, in_pairs}
use Rattle.front.proofs.connections.ConnectionsServeIngesterPass.visit_all.Goals as goal

pub returns : goal.returns
returns g c =
    let (doubt, are) = c.visit_all.ensures.visits in
    let before = world (known c.args.pass.now false) c.args.self.now.clock in
    let after = world (known c.visit_all.new.pass doubt) c.visit_all.new.clock in
    let olds = c.args.sessions.now.items in
    let news = c.visit_all.new.connections.items in
    record {
      pass = c.visit_all.ensures.pass;
      visited = each_was g.C.Clock.ticks (λ (k : KeptConnection g.row.C.Denot). k.connection) before olds after news are;
      visits = (doubt, in_pairs g.C.Clock.ticks (λ (k : KeptConnection g.row.C.Denot). k.connection) before olds after news are);
    }
