-- The routes of a pass to the shards and back.
use Rattle.std.specs.Prelude.{◌≡◌, ℕ, ◌≤◌, List, [], Some, slice_get}
use Rattle.std.specs.VecDeque.{deque_len}
use Rattle.keyed.specs.Queues.{sends_to, receives_as}
use Rattle.keyed.specs.declared.binding.Binding.TheVariants.{Bound}
use Rattle.history.specs.Histories.{max_open}
use Rattle.owners.specs.declared.messages.ShardMessage.{ShardMessage}
use Rattle.owners.specs.declared.routes.ShardRoute.{ShardRoute}
use Rattle.owners.specs.Homes.{Homed}
use Rattle.owners.specs.Calls.{IsBatch, AreDue}

-- an empty message of pass p
pub record IsBlank (p : ℕ) (message : ShardMessage) : Type 0 where
  pub pass : message.pass ≡ p
  pub jobs : message.jobs.items ≡ []
  pub settled : message.settled.items ≡ []

-- The route of pass p to shard k. In its message are calls that are to be made there, and what became of calls.
pub record IsRoute (home : Homed) (p k : ℕ) (route : ShardRoute) : Type 0 where
  pub pass : route.message.pass ≡ p
  pub batch : IsBatch home.table home.about k p route.message.jobs.items
  pub settled : AreDue home p route.message.settled.items
  pub orders : sends_to route.orders ≡ Bound home k
  pub answers : receives_as route.answers ≡ Bound home p

-- so is each
abbrev pub AreRoutes : Homed → ℕ → List ShardRoute → Type 0
AreRoutes home p routes = (k : ℕ) (route : ShardRoute) → slice_get routes k ≡ Some route → IsRoute home p k route

-- The route of pass p to shard k. What became of calls is not in its message.
pub record IsReadyRoute (home : Homed) (p k : ℕ) (route : ShardRoute) : Type 0 where
  pub pass : route.message.pass ≡ p
  pub settled : route.message.settled.items ≡ []
  pub orders : sends_to route.orders ≡ Bound home k
  pub answers : receives_as route.answers ≡ Bound home p

abbrev pub AreReadyRoutes : Homed → ℕ → List ShardRoute → Type 0
AreReadyRoutes home p routes = (k : ℕ) (route : ShardRoute) → slice_get routes k ≡ Some route
    → IsReadyRoute home p k route

-- but for the calls in their messages two routes are alike
pub record HasSameRest (old new : ShardRoute) : Type 0 where
  pub pass : new.message.pass ≡ old.message.pass
  pub settled : new.message.settled.items ≡ old.message.settled.items
  pub orders : new.orders ≡ old.orders
  pub answers : new.answers ≡ old.answers

-- In the message are calls that are to be made at shard k, 64 at most.
pub record IsLoaded (home : Homed) (p k : ℕ) (route : ShardRoute) : Type 0 where
  pub ready : IsReadyRoute home p k route
  pub batch : IsBatch home.table home.about k p route.message.jobs.items
  pub few : deque_len route.message.jobs ≤ max_open

abbrev pub AreLoaded : Homed → ℕ → List ShardRoute → Type 0
AreLoaded home p routes = (k : ℕ) (route : ShardRoute) → slice_get routes k ≡ Some route → IsLoaded home p k route

-- no call is on it
pub record IsIdleRoute (home : Homed) (p k : ℕ) (route : ShardRoute) : Type 0 where
  pub message : IsBlank p route.message
  pub orders : sends_to route.orders ≡ Bound home k
  pub answers : receives_as route.answers ≡ Bound home p

-- so it is on each
abbrev pub AreIdleRoutes : Homed → ℕ → List ShardRoute → Type 0
AreIdleRoutes home p routes = (k : ℕ) (route : ShardRoute) → slice_get routes k ≡ Some route
    → IsIdleRoute home p k route
