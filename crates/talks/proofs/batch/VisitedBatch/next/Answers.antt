use Rattle.std.proofs.Common.{sym, ◌∙◌}
use Rattle.std.proofs.lemmas.List.{nil_from_length}
use Rattle.talks.specs.Batches.{IsSessionOf}
use Rattle.talks.proofs.Pairs.{both_popped, first_of_both, none_beside}
use Rattle.talks.proofs.batch.VisitedBatch.next.Goals as goal

pub invariant_of-self-2 : goal.invariant_of-self-2
invariant_of-self-2 g c =
    record {
      talked = both_popped (IsSessionOf g.T.Session.seen g.T.Session.visited) c.args.self.now.sessions.items c.pop_front.new.self.items c.args.self.now.lent.items c.pop_front-2.new.self.items
          c.pop_front.ensures.rest c.pop_front-2.ensures.rest c.args.self.now.talked;
    }

pub unreachable-requires : goal.unreachable-requires
unreachable-requires g c =
    none_beside (IsSessionOf g.T.Session.seen g.T.Session.visited) c.args.self.now.sessions.items c.pop_front.new.self.items c.args.self.now.lent.items c.in_ok-session.session c.in_ok-session.ensures.items
    (nil_from_length c.args.self.now.lent.items (sym c.args.self.now.lent.ok.0 ∙ c.in_default.ensures.cases.0)) c.args.self.now.talked

pub invariant_of-talk : goal.invariant_of-talk
invariant_of-talk g c =
    record {
      talked = first_of_both (IsSessionOf g.T.Session.seen g.T.Session.visited) c.args.self.now.sessions.items c.pop_front.new.self.items c.args.self.now.lent.items c.pop_front-2.new.self.items c.in_ok-session.session
          c.in-Some.lent c.in_ok-session.ensures.items c.in-Some.ensures.items c.args.self.now.talked;
    }
