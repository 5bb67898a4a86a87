-- How the contents that a crash may leave are listed: beginning by beginning.
use Rattle.std.specs.Prelude.{◌≡◌, ◌<◌, ℕ, zero, suc, ◌+◌, List, [], ◌∷◌, ◌++◌, length, slice_index_or, Bool, true, false, if◌then◌else◌}
use Rattle.disk.specs.State.{IsOutside}

-- A mask is true exactly at the bytes from low on and in these ranges.
pub record IsMarked (low : ℕ) (ranges : List (ℕ × ℕ)) (mask : List Bool) : Type 0 where
  pub marked : (i : ℕ) → i < length mask → slice_index_or mask i false ≡ true
      → ¬ ((i < low) × IsOutside ranges i)
  pub clear : (i : ℕ) → i < length mask → slice_index_or mask i false ≡ false
      → (i < low) × IsOutside ranges i

-- what may stand at i: these values where the byte isn't synced, and else the byte
abbrev pub open_bytes : List Bool → List ℕ → List ℕ → ℕ → List ℕ
open_bytes mask now values i =
    if slice_index_or mask i false then values else slice_index_or now i 0 ∷ []

-- a list with one more item, each of these in turn
abbrev pub extended : List ℕ → List ℕ → List (List ℕ)
extended front [] = []
extended front (v ∷ vs) = (front ++ v ∷ []) ∷ extended front vs

-- each of the lists with one more item
abbrev pub each_longer : List (List ℕ) → List ℕ → List (List ℕ)
each_longer [] vs = []
each_longer (front ∷ all_beginnings) vs = extended front vs ++ each_longer all_beginnings vs

-- all lists of n items, the one at i out of options i
abbrev pub all_beginnings : (ℕ → List ℕ) → ℕ → List (List ℕ)
all_beginnings options zero = [] ∷ []
all_beginnings options (suc n) = each_longer (all_beginnings options n) (options n)

-- those of k lengths, from low on
abbrev pub of_lengths : (ℕ → List ℕ) → ℕ → ℕ → List (List ℕ)
of_lengths options low zero = []
of_lengths options low (suc k) = of_lengths options low k ++ all_beginnings options (low + k)
