use Rattle.std.proofs.Common.{rules}
use Rattle.std.specs.Prelude.{Some}
use Rattle.std.proofs.lemmas.List.Elements.{All-pop}
use Rattle.accept.specs.Calls.{AreNumbers}
use Rattle.lone_shard.specs.Passes.{IsIdlePass}
use Rattle.lone_shard.proofs.Passes.{one_more}
use Rattle.lone_shard.proofs.lone.LoneShard.announce_each.Goals as goal

pub loop-call-preserved : goal.loop-call-preserved
loop-call-preserved g c =
    let lone = c.args.self.now in
    let was = c.loop-call in
    let pass = c.in-Some-pop.pass in
    let numbers : AreNumbers c.in-Some.call = search rules in
    let idle = All-pop (IsIdlePass lone.history) was.passes.items c.pop.new.self.items (Some pass) c.in-Some-pop.ensures.items was.invariant.idle in
    record {
      idle = idle.0;
      ready = one_more lone.history lone.shard.book pass was.jobs.items c.push_back.new.self.items c.in-Some.call c.in_ok-ticket.ticket lone.table.0 lone.only.0 lone.only.1 idle.1 numbers was.invariant.ready
          c.in_ok-ticket.ensures.ticket c.in_ok-push_back.ensures.items;
    }
