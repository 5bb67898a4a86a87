use Rattle.talks.proofs.Talking.{same_calls, text_went}
use Rattle.talks.proofs.talk.Talk.send_some.Goals as goal

pub invariant_of-self : goal.invariant_of-self
invariant_of-self g c = record { talked = same_calls g.T.Session.seen g.T.Session.visited c.args.self.now.session c.args.self.now.over c.args.self.now.socket.noted.calls c.write_some.new.self.noted.calls c.in_err-count.ensures.err c.args.self.now.talked }

pub invariant_of-self-2 : goal.invariant_of-self-2
invariant_of-self-2 g c = record { talked = text_went g.T.Session.seen g.T.Session.visited c.args.self.now.session c.sent.new.self c.args.self.now.over c.args.self.now.socket.noted.calls c.write_some.new.self.noted.calls c.text.result.now c.in_ok-count.count c.text.ensures c.in_ok-count.ensures.within c.sent.ensures c.in_ok-count.ensures.said c.args.self.now.talked }
