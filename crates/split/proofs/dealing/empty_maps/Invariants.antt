use Rattle.std.proofs.Common.{◌≡◌, replicate}
use Rattle.std.specs.Prelude.{vec_len}
use Rattle.std.specs.Vec.{vec_capacity}
use Rattle.std.specs.FinMap as finite
use Rattle.split.proofs.dealing.empty_maps.Given as goal

abbrev pub invariant-loop : goal.invariant-loop
invariant-loop l = record {
  items : l.maps.items ≡ replicate l.counter finite.empty;
  len : vec_len l.maps ≡ l.counter;
  room : vec_capacity l.maps ≡ l.count;
}
