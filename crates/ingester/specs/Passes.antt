-- The routes of a pass, as it keeps them between its calls.
use Rattle.std.specs.Prelude.{◌≡◌, List, length}
use Rattle.history.specs.Handles.{Passed}
use Rattle.owners.specs.declared.routes.ShardRoute.{ShardRoute}
use Rattle.owners.specs.Homes.{home_at}
use Rattle.owners.specs.Routes.{AreIdleRoutes}

-- the pass has a route to each shard, and no call is on any
pub record HasRoutes (seat : Passed) (routes : List ShardRoute) : Type 0 where
  pub idle : AreIdleRoutes (home_at seat) seat.caller.pass routes
  pub count : length routes ≡ seat.caller.about.shards
