use Rattle.std.proofs.Common.{sym, subst}
use Rattle.keyed.specs.Bindings.{FitsBinding}
use Rattle.owners.specs.Places.{IsOf}
use Rattle.owners.proofs.owning.own.Goals as goal

pub answer_orders-ending-requires : goal.answer_orders-ending-requires
answer_orders-ending-requires g c = (c.owner.inside.number, c.owner.invariant)

pub send-requires : goal.send-requires
send-requires g c =
    let is = c.answer_orders-ending.ensures c.owner.inside.number c.owner.invariant in
    subst (λ b. FitsBinding (λ o k shard. IsOf g.D.Disk.sight g.D.Disk.follows o k shard) b c.answer_orders-ending.new.state) (sym is.has_ends.returns) is.is_of
