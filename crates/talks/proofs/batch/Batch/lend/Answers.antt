use Rattle.std.proofs.Common.{arith}
use mathlib.Core.Logic.{∥∥₁_map}
use Rattle.talks.specs.Batches.{MayBeVisited}
use Rattle.talks.proofs.Pairs.{both_pushed}
use Rattle.talks.proofs.batch.Batch.lend.Goals as goal

pub invariant_of-self : goal.invariant_of-self
invariant_of-self g c =
    record {
      few = omega (arith, c.push_back_reserved.ensures.len, c.requires.few);
      talked = both_pushed (MayBeVisited g.T.Session.seen g.T.Session.visited) c.args.self.now.sessions.items c.push_back_reserved.new.self.items c.args.self.now.lent.items c.push_back_reserved-2.new.self.items c.args.talk.session _
          c.push_back_reserved.ensures.items c.push_back_reserved-2.ensures.items c.args.self.now.talked (∥∥₁_map c.args.talk.talked (λ of. (c.requires.goes_on, of)));
    }
