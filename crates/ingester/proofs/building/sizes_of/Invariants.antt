use Rattle.std.proofs.Common.{◌≡◌, ◌≤◌, vec_len}
use Rattle.std.specs.Vec.{vec_capacity}
use Rattle.ingester.proofs.building.sizes_of.Given as goal

abbrev pub invariant-loop-place : goal.invariant-loop-place
invariant-loop-place g l = record {
  len : vec_len l.sizes ≡ l.place-index;
  room : vec_len l.shards ≤ vec_capacity l.sizes;
}
