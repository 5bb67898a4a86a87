-- The ends of an opening's queues, before the owners and the passes have them.
use Rattle.std.specs.Prelude.{◌≡◌, ℕ, List, length}
use Rattle.std.specs.declared.alloc.Global.{Global}
use Rattle.std.specs.declared.vec.Vec.{Vec}
use Rattle.keyed.specs.Queues.{sends_to, receives_as}
use Rattle.keyed.specs.declared.binding.Binding.TheVariants.{Bound}
use Rattle.history.specs.Handles.{Passed}
use Rattle.owners.specs.Homes.{Homed, home_at}
use Rattle.owners.specs.declared.rows.ShardQueues.{ShardQueues}
use Rattle.owners.specs.declared.routes.ShardRoute.{ShardRoute}
use Rattle.owners.specs.Lists.{AreEach}
use Rattle.owners.specs.Bonds.{AreBoundFrom}
use Rattle.owners.specs.Routes.{AreIdleRoutes}

-- the ends of shard k, with those of the first p passes
pub record IsShardQueues (home : Homed) (p k : ℕ) (queues : ShardQueues) : Type 0 where
  pub orders : sends_to queues.orders ≡ Bound home k
  pub gets : receives_as queues.gets ≡ Bound home k
  pub answers : AreBoundFrom home queues.answers.items
  pub count : length queues.answers.items ≡ p

abbrev pub AreShardQueues : Homed → ℕ → List ShardQueues → Type 0
AreShardQueues home p = AreEach (IsShardQueues home p) 0

-- the routes of a pass to each shard, on which no call is
abbrev pub IsRow : Homed → ℕ → ℕ → List ShardRoute → Type 0
IsRow home count p routes = AreIdleRoutes home p routes × (length routes ≡ count)

-- the row of each pass
abbrev pub AreRows : Homed → ℕ → List (Vec ShardRoute Global) → Type 0
AreRows home count = AreEach (λ p row. IsRow home count p row.items) 0

-- the seat of pass p at the histories
pub record IsSeatAt (home : Homed) (p : ℕ) (seat : Passed) : Type 0 where
  pub of : home_at seat ≡ home
  pub number : seat.caller.pass ≡ p
