use Rattle.std.proofs.Common.{◌≡◌, ℕ, vec_len}
use Rattle.owners.specs.Homes.{Homed}
use Rattle.owners.specs.Routes.{AreIdleRoutes}
use Rattle.owners.proofs.several.end_owners.Given as goal

abbrev pub invariant-loop-shard : goal.invariant-loop-shard
invariant-loop-shard g l = record {
  len : vec_len l.routes ≡ vec_len l.fn.routes;
  routes : (home : Homed) (p : ℕ) → AreIdleRoutes home p l.fn.routes.items → AreIdleRoutes home p l.routes.items;
}
