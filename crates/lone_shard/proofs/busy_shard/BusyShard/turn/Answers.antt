use Rattle.std.proofs.Common.{rules, ◌≡◌, List, length, ◌∙◌, sym, subst}
use Rattle.shard.specs.declared.group.Settled.{Settled}
use Rattle.lone_shard.specs.Rounds.{IsOpenRound}
use Rattle.lone_shard.proofs.Rounds.{no_settled, open_turn}
use Rattle.lone_shard.proofs.busy_shard.BusyShard.turn.Goals as goal

pub invariant_of-self : goal.invariant_of-self
invariant_of-self g c =
    let r = c.self.inside in
    let made = c.apply_group-ended in
    let nothing : length r.settled.items ≡ 0 = search rules in
    let begun = subst (λ (l : List Settled). IsOpenRound r.history r.shard.book r.pass r.jobs.items l)
    (no_settled r.settled.items nothing ∙ sym c.in_ok-settled.ensures.items) c.self.invariant in
    let turned = open_turn _ _ r.history r.pass _ begun made.ensures.turn made.ensures.ready in
    subst (λ (l : List Settled). IsOpenRound r.history made.new.self.book r.pass made.new.jobs.items l) (sym c.from.ensures.0) turned
