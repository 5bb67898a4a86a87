-- A number before another or not, a place in a range or not.
use Rattle.std.proofs.Common.{◌≤◌, ◌<◌, ◌⊎◌, ℕ, ◌+◌, inl, inr, arith}
use Rattle.std.proofs.lemmas.Bool.{cases_order}

pub ltb_cases : (m n : ℕ) → (m < n) ⊎ (n ≤ m)
ltb_cases m n = elim (cases_order m n) [
  | inl same ↦ inr (omega arith)
  | inr other ↦ elim other [ inl less ↦ inl less | inr more ↦ inr (omega arith) ]
]

-- a place is in a range or apart from it
pub within_or_not : (at n i : ℕ) → ((at ≤ i) × (i < at + n)) ⊎ ((i < at) ⊎ (at + n ≤ i))
within_or_not at n i = elim (ltb_cases i at) [
  | inl below ↦ inr (inl below)
  | inr from ↦ elim (ltb_cases i (at + n)) [ inl inside ↦ inl (from, inside) | inr above ↦ inr (inr above) ]
]
