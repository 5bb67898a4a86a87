-- A route with calls in its message.
use Rattle.std.proofs.Common.{ℕ, sym, subst}
use Rattle.owners.specs.declared.routes.ShardRoute.{ShardRoute}
use Rattle.owners.specs.Homes.{Homed}
use Rattle.owners.specs.Calls.{AreDue}
use Rattle.owners.specs.Routes.{IsRoute, IsLoaded}

pub route_of_loaded : (home : Homed) (p k : ℕ) (route : ShardRoute) → IsLoaded home p k route → IsRoute home p k route
route_of_loaded home p k route h = record {
  pass = h.ready.pass;
  batch = h.batch;
  settled = subst (AreDue home p) (sym h.ready.settled) tt;
  orders = h.ready.orders;
  answers = h.ready.answers;
}
