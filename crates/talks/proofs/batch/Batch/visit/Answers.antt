use Rattle.std.specs.List.{zip}
use Rattle.talks.specs.Batches.{IsSessionOf, MayBeVisited}
use Rattle.talks.proofs.Pairs.{each_became}
use Rattle.talks.proofs.Talking.{one_batch, was_visited}
use Rattle.talks.proofs.batch.Batch.visit.Goals as goal

pub invariant_of-result : goal.invariant_of-result
invariant_of-result g c =
    let seen = g.T.Session.seen in
    let visited = g.T.Session.visited in
    record {
      talked = each_became (MayBeVisited seen visited) (IsSessionOf seen visited) visited (λ t t' lent is of. was_visited seen visited t t' lent.over lent.socket.noted.calls of.0 is of.1)
          c.args.self.sessions.items c.visit_all.new.sessions.items c.args.self.lent.items c.visit_all.ensures.visited c.args.self.talked;
    }

pub returns-clause-visits : goal.returns-clause-visits
returns-clause-visits g c =
    one_batch g.S.Serve.visits c.args.service.now c.args.server.now c.args.pass.now (zip c.args.self.sessions.items c.visit_all.new.sessions.items) c.visit_all.new.self c.visit_all.new.pass c.visit_all.ensures.visits
