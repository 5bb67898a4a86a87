-- The contents that a crash may leave, listed.
use Rattle.std.specs.Prelude.{◌≢◌, ◌<◌, ◌⊎◌, ℕ, List, length, map, slice_index_or, All, AllPairs, Contains, Vec}
use Rattle.std.specs.declared.alloc.Global.{Global}
use Rattle.disk.specs.State.{State, IsOutside, IsImage}

-- the byte at i stood there at the last sync, and in no range that was written since
abbrev pub IsSyncedAt : State → ℕ → Type 0
IsSyncedAt s i = (i < length s.base) × IsOutside s.ranges i

-- a content that a crash may leave, each byte of which is synced or out of these values
pub record IsImageOf (s : State) (values c : List ℕ) : Type 0 where
  pub image : IsImage s c
  pub drawn : (i : ℕ) → i < length c → IsSyncedAt s i ⊎ Contains values (slice_index_or c i 0)

-- all that have P, each once
pub record Lists {X : Type 0} (P : X → Type 0) (xs : List X) : Type 0 where
  pub each : All P xs
  pub complete : (x : X) → P x → Contains xs x
  pub once : AllPairs (λ x y. x ≢ y) xs

-- the bytes of each
abbrev pub contents : List (Vec ℕ Global) → List (List ℕ)
contents vs = map (λ v. v.items) vs
