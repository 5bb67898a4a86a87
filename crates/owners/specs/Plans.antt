-- What an opening's owners and passes need beside threads and shards.
use Rattle.std.specs.Prelude.{◌≡◌, ◌≤◌, List, length, vec_len}
use Rattle.std.specs.Vec.{vec_capacity}
use Rattle.std.specs.VecDeque.{deque_len}
use Rattle.keyed.specs.Asides.{key_aside}
use Rattle.keyed.specs.declared.ends.QueueReceiver.{QueueReceiver}
use Rattle.owners.specs.Openings.{Opening, home_of}
use Rattle.owners.specs.Bonds.{ReceiveFrom}
use Rattle.owners.specs.Owners.{AreEnds}
use Rattle.owners.specs.QueueEnds.{AreRows}
use Rattle.owners.specs.declared.plan.Closer.{Closer}
use Rattle.owners.specs.declared.plan.Plan.{Plan}

-- an end for each shard, by which it comes back
abbrev pub AreBacks : {D T P : Type 0} → Opening D → List (QueueReceiver T (Opening D) P) → Type 0
AreBacks opening backs = ReceiveFrom opening backs × (length backs ≡ opening.about.shards)

-- what closing needs
pub record IsCloser {D : Type 0} (opening : Opening D) (closer : Closer D) : Type 0 where
  pub backs : AreBacks opening closer.backs.items
  pub none : vec_len closer.room ≡ 0
  pub room : opening.about.shards ≤ vec_capacity closer.room

-- the plan of an opening
pub record IsPlan {D : Type 0} (opening : Opening D) (plan : Plan D) : Type 0 where
  pub origin : plan.origin ≡ opening
  pub rows : AreRows (home_of opening) opening.about.shards plan.rows.items
  pub passes : vec_len plan.rows ≡ opening.about.passes
  pub closing : key_aside plan.closing ≡ plan.origin
  pub ends : AreEnds opening plan.ends.items
  pub count : deque_len plan.ends ≡ opening.about.shards
