-- Values that stand one after another.
use Rattle.std.proofs.Common.{◌≡◌, ℕ, ◌<◌, List, [], ◌∷◌, ◌++◌, length, length-append, refl, sym, ◌∙◌, arith}
use Rattle.std.specs.Prelude.{Some, slice_get}
use Rattle.std.proofs.lemmas.List.{get_or_append_left}
use Rattle.std.proofs.Math.Seq.{get_or-append_seam}
use Rattle.std.proofs.lemmas.Option.{slice_get_read, get_or_from_slice_get}

module _ {A : Type 0} where
  pub get_before : (xs : List A) (y z : A) (k : ℕ) → k < length xs → slice_get xs k ≡ Some z → slice_get (xs ++ y ∷ []) k ≡ Some z
  get_before xs y z k lt e =
      let long = length-append xs (y ∷ []) in
      let here : k < length (xs ++ y ∷ []) = omega arith in
      slice_get_read (xs ++ y ∷ []) (length (xs ++ y ∷ [])) k z refl here (sym (get_or_append_left xs (y ∷ []) z k lt ∙ get_or_from_slice_get xs k z z e))

  pub get_last : (xs : List A) (y : A) → slice_get (xs ++ y ∷ []) (length xs) ≡ Some y
  get_last xs y =
      let long = length-append xs (y ∷ []) in
      let here : length xs < length (xs ++ y ∷ []) = omega arith in
      slice_get_read (xs ++ y ∷ []) (length (xs ++ y ∷ [])) (length xs) y refl here (sym (get_or-append_seam xs y [] y))
