use Rattle.std.proofs.Common.{◌∙◌, subst, arith}
use Rattle.owners.specs.Openings.{home_of}
use Rattle.owners.specs.Routes.{IsRoute}
use Rattle.ingester.proofs.Collected.{taken_behind_on, open_more, received_on_more}
use Rattle.ingester.proofs.opened.Ingester.receive_shard.Goals as goal

pub loop-i-preserved : goal.loop-i-preserved
loop-i-preserved g c =
    let inv = c.loop-i.invariant in
    let k = c.args.shard in
    let was = c.loop-i.pass in
    let new = c.receive_there.new.pass in
    let taken = c.in-Some.ensures.taken in
    let behind = taken_behind_on k was new c.in-Some.came taken in
    record {
      received = received_on_more k c.args.pass.now was new c.args.outcomes.now.items c.loop-i.outcomes.items c.push_back_reserved.new.self.items c.loop-i.i c.in-Some.came inv.received c.push_back_reserved.ensures.items taken;
      table = behind.table ∙ inv.table;
      own = behind.pass ∙ inv.own;
      open_there = open_more k c.loop-i.i was new c.args.numbers.now behind inv.open_there;
      route = subst (λ p. IsRoute (home_of c.args.self.now) p k c.receive_there.new.route) inv.own c.in-Some.ensures.route;
      len = let had = inv.len in let long = c.push_back_reserved.ensures.len in omega arith;
      capacity = c.push_back_reserved.ensures.capacity ∙ inv.capacity;
    }
