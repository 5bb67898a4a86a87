use Rattle.std.proofs.Common.{◌≡◌, ◌<◌, ◌≤◌, ℕ, vec_len}
use Rattle.std.specs.Prelude.{Some, slice_get}
use Rattle.owners.specs.declared.routes.ShardRoute.{ShardRoute}
use Rattle.owners.specs.Homes.{Homed}
use Rattle.owners.specs.Routes.{IsIdleRoute, IsRoute, AreRoutes}
use Rattle.owners.proofs.several.clear_messages.Given as goal

abbrev pub invariant-loop-shard : goal.invariant-loop-shard
invariant-loop-shard l = record {
  len : vec_len l.routes ≡ vec_len l.fn.routes;
  routes : (home : Homed) (p : ℕ) → AreRoutes home p l.fn.routes.items → (k : ℕ) (route : ShardRoute) → slice_get l.routes.items k ≡ Some route → (k < l.shard → IsIdleRoute home p k route) × (l.shard ≤ k → IsRoute home p k route);
}
