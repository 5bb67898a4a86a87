use Rattle.std.proofs.Common.{rules, List, [], ◌∷◌, length, length-append, append-nil, sym, ap, ◌∙◌, subst}
use Rattle.ingester.specs.Closings.{Handed, AreLast, IsHandedOut}
use Rattle.shard.specs.Shards.{Sharded}
use Rattle.ingester.proofs.Lasting.{front_last, the_last, last_handed}
use Rattle.ingester.proofs.closing.Closed.take.Goals as goal

pub invariant_of-self-2 : goal.invariant_of-self-2
invariant_of-self-2 g c = (front_last g.D.Disk.sight g.D.Disk.follows _ _ _ _ c.in_ok-shard.shard c.in_ok-shard.ensures.items c.self.invariant.0, c.self.invariant.1)

pub into_slots-requires : goal.into_slots-requires
into_slots-requires g c =
    (search rules, c.self.invariant.1 ∙ sym (the_last g.D.Disk.sight g.D.Disk.follows _ _ _ _ c.in_ok-shard.shard c.in_ok-shard.ensures.items c.self.invariant.0).is_of.table)

pub returns-clause-kept : goal.returns-clause-kept
returns-clause-kept g c =
    let slots = c.into_slots.ensures in
    subst (λ (h : Handed g.row.D.Denot). IsHandedOut g.D.Disk.sight g.D.Disk.follows h.opening h.passes (length c.pop.new.self.items) (c.into_slots.result, c.is_marked-marked.result)) c.self.view_is
    (last_handed g.D.Disk.sight g.D.Disk.follows _ _ _ _ c.in_ok-shard.shard _ _ c.in_ok-shard.ensures.items c.self.invariant.0 slots.slots slots.covers slots.before slots.marked slots.unmarked c.is_marked-marked.ensures)

pub returns-clause-left : goal.returns-clause-left
returns-clause-left g c =
    let was = c.self.view_is in
    let left = c.pop.new.self.items in
    (λ i. record { opening = (was i).opening; passes = (was i).passes; left = length left }, ap (λ (h : Handed g.row.D.Denot). h.left) (sym was) ∙ (ap length c.in_ok-shard.ensures.items ∙ length-append left (c.in_ok-shard.shard ∷ [])))

pub invariant_of-self : goal.invariant_of-self
invariant_of-self g c = (subst (λ (l : List (Sharded g.row.D.Denot)). AreLast g.D.Disk.sight g.D.Disk.follows c.self.inside.origin c.self.inside.passes.items l) (c.in_err-shard.ensures.items ∙ append-nil c.pop.new.self.items) c.self.invariant.0, c.self.invariant.1)
