use Rattle.talks.proofs.Talking.{began}
use Rattle.talks.proofs.talk.Talk.new.Goals as goal

pub invariant_of-result : goal.invariant_of-result
invariant_of-result g c = record { talked = began g.T.Session.seen g.T.Session.visited c.args.session c.args.new.socket.noted.calls c.args.new.set c.requires }
