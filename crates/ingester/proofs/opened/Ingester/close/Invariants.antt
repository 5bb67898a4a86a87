use Rattle.std.proofs.Common.{◌≡◌, ◌≤◌, ℕ, length}
use Rattle.std.specs.Prelude.{Some, slice_get}
use Rattle.std.specs.Vec.{vec_capacity}
use Rattle.shard.specs.Shards.{Sharded}
use Rattle.owners.specs.Bonds.{ReceiveFrom}
use Rattle.ingester.specs.Closings.{IsLast}
use Rattle.ingester.proofs.opened.Ingester.close.Given as goal

abbrev pub invariant-loop-number : goal.invariant-loop-number
invariant-loop-number g l = record {
  backs : ReceiveFrom l.origin l.backs.items;
  many : length l.backs.items ≡ l.count;
  passes : l.passes.items ≡ l.fn.passes.items;
  room : l.count ≤ vec_capacity l.shards;
  len : length l.shards.items ≡ l.number;
  last : (k : ℕ) (shard : Sharded g.row.D.Denot) → slice_get l.shards.items k ≡ Some shard → IsLast g.D.Disk.sight g.D.Disk.follows l.fn.self l.fn.passes.items k shard;
}
