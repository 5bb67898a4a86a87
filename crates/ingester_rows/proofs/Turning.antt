-- A fact of each value of a list, when one comes before the first, and when it is not known whether one came.
use Rattle.std.proofs.Common.{◌≡◌, ℕ, suc, zero, Bool, true, false, cond, List, ◌∷◌, sym, subst}
use Rattle.std.specs.Prelude.{Some, slice_get}
use Rattle.std.proofs.lemmas.Option.{same_Some}
use Rattle.ingester.proofs.Listing.{Each}

module _ {A : Type 0} (P : A → Type 0) where
  pub each_behind : (xs : List A) (x : A) → P x → Each P xs → Each P (x ∷ xs)
  each_behind xs x p h zero z at = subst P (same_Some x z at) p
  each_behind xs x p h (suc k) z at = h k z at

  pub each_by : (b : Bool) (one other new : List A) → new ≡ cond b one other → Each P one → Each P other → Each P new
  each_by true one other new is h g = subst (Each P) (sym is) h
  each_by false one other new is h g = subst (Each P) (sym is) g
