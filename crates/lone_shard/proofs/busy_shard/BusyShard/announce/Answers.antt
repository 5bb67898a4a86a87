use Rattle.std.proofs.Common.{rules, ◌≡◌, ◌<◌, length, sym, subst}
use Rattle.accept.specs.Calls.{AreNumbers}
use Rattle.lone_shard.proofs.Rounds.{few_open, no_settled, open_more}
use Rattle.lone_shard.proofs.busy_shard.BusyShard.announce.Goals as goal

pub announce-requires-clause-few : goal.announce-requires-clause-few
announce-requires-clause-few g c =
    let r = c.self.inside in
    let nothing : length r.settled.items ≡ 0 = search rules in
    let small : length r.jobs.items < 64 = search rules in
    subst (λ n. n < 64) (sym (few_open r.history r.shard.book r.pass r.jobs.items r.settled.items c.self.invariant (no_settled r.settled.items nothing))) small

pub invariant_of-self-2 : goal.invariant_of-self-2
invariant_of-self-2 g c =
    let r = c.self.inside in
    let nothing : length r.settled.items ≡ 0 = search rules in
    let numbers : AreNumbers c.args.call = search rules in
    let told = c.in_ok-ticket.ensures in
    open_more r.history r.shard.book r.pass c.announce.new.pass r.jobs.items c.push_back_reserved.new.self.items r.settled.items c.args.call c.in_ok-ticket.ticket c.self.invariant (no_settled r.settled.items nothing) numbers
    told.ticket told.rested told.pass c.push_back_reserved.ensures.items
