use Rattle.talks.proofs.Talking.{few_come, same_calls, bytes_came, not_taken_in}
use Rattle.talks.proofs.talk.Talk.receive.Goals as goal

pub invariant_of-self : goal.invariant_of-self
invariant_of-self g c = record { talked = same_calls g.T.Session.seen g.T.Session.visited c.args.self.now.session c.args.self.now.over c.args.self.now.socket.noted.calls c.read_some.new.self.noted.calls c.in_err-count.ensures.err c.args.self.now.talked }

pub invariant_of-self-then-take_in : goal.invariant_of-self-then-take_in
invariant_of-self-then-take_in g c = record { talked = bytes_came g.T.Session.seen g.T.Session.visited c.args.self.now.session c.take_in.new.self c.args.self.now.over c.args.self.now.socket.noted.calls c.read_some.new.self.noted.calls _ c.if-self.false (few_come c.in_ok-count.count c.min-most.result c.room.result (g.T.Session.seen c.args.self.now.session).room c.args.space.now c.read_some.new.space c.read_some.ensures.len c.min-most.ensures c.room.ensures) c.if-take_in.ensures c.in_ok-count.ensures.heard c.args.self.now.talked }

pub invariant_of-self-2 : goal.invariant_of-self-2
invariant_of-self-2 g c = record { talked = not_taken_in g.T.Session.seen g.T.Session.visited c.args.self.now.session c.take_in.new.self c.args.self.now.over c.args.self.now.socket.noted.calls c.read_some.new.self.noted.calls _ c.if-take_in.ensures c.in_ok-count.ensures.heard c.args.self.now.talked }
