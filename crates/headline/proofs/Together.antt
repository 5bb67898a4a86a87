-- Calls that are made together happen one after another.
use Rattle.std.proofs.Common.{◌≡◌, Bool, List, [], ◌∷◌, map, refl, ap, Result}
use Rattle.headline.proofs.Common.{Call, Reply, CallFault, Passed, Opening, AreGivenAfter, Called, Happening, HappenAfter, calls_with}

module _ {D : Type 0} (opening : Opening D) where
  pub in_order : (lost : Bool) (old new : Passed) (calls : List Call) (outcomes : List (Result Reply CallFault)) → AreGivenAfter lost old calls outcomes new
      → (hs : List Happening) × HappenAfter lost opening old hs new × (map (λ h. h.what) hs ≡ calls_with calls outcomes)
  in_order lost old new [] [] is = ([], is, refl)
  in_order lost old new [] (r ∷ rs) is = absurd is
  in_order lost old new (call ∷ calls) [] is = absurd is
  in_order lost old new (call ∷ calls) (r ∷ rs) is =
      let rest = in_order _ is.0 new calls rs is.2 in (
        record { before = old; what = Called call r; after = is.0 } ∷ rest.0,
        (refl, is.1, rest.1),
        ap (λ l. Called call r ∷ l) rest.2,
      )
