use Rattle.std.proofs.Common.{ℕ}
use Rattle.owners.specs.Owners.{IsOwner}
use Rattle.owners.proofs.owning.answer_orders.Given as goal

abbrev pub invariant-loop : goal.invariant-loop
invariant-loop g l = record {
  owner : (k : ℕ) → IsOwner g.D.Disk.sight g.D.Disk.follows k l.fn.state l.fn.ends → IsOwner g.D.Disk.sight g.D.Disk.follows k l.state l.ends;
}
