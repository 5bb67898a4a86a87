use Rattle.talks.proofs.Talking.{read_dropped}
use Rattle.talks.proofs.talk.Talk.drop_some.Goals as goal

pub invariant_of-self : goal.invariant_of-self
invariant_of-self g c = record { talked = read_dropped g.T.Session.seen g.T.Session.visited c.args.self.now.session c.args.self.now.over c.args.self.now.socket.noted.calls c.read_some.new.self.noted.calls c.read_some.new.space c.read_some.result c.read_some.ensures.heard c.read_some.ensures.err c.args.self.now.talked }
