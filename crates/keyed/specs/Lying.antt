-- The rule of a value that is set aside.
use Rattle.std.specs.Prelude.{◌≡◌, ℕ}
use mathlib.Core.Option.{some}
use lib.ListN.{get_elem?}
use Rattle.atomic_table.specs.Table.{State}

-- the value lies there, and fits
abbrev pub IsThere : {T K : Type 0} → (K → ℕ → T → Type 0) → K → State T (Unit {0}) → Type 0
IsThere {T} fits key s = (value : T) × (get_elem? s.homes 0 ≡ some (some value)) × fits key 0 value
