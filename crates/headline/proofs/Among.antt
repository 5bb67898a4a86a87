-- What is one of a list.
use Rattle.std.proofs.Common.{◌≡◌, ◌⊎◌, List, [], ◌∷◌, ◌++◌, refl, inl, inr, ⊎_elim, flat_map}
use Rattle.headline.specs.Headline.{IsOneOf}
pub use Rattle.accept.proofs.Lasting.{among_left, among_right}

module _ {A : Type 0} (x : A) where
  pub among_split : (xs ys : List A) → IsOneOf x (xs ++ ys) → IsOneOf x xs ⊎ IsOneOf x ys
  among_split [] ys h = inr h
  among_split (y ∷ xs) ys h = ⊎_elim
      (λ (e : x ≡ y). inl (inl e))
      (λ (t : IsOneOf x (xs ++ ys)). ⊎_elim (λ (l : IsOneOf x xs). inl (inr l)) (λ (r : IsOneOf x ys). inr r) (among_split xs ys t))
      h

-- it is of one of the parts
pub among_part : {A B : Type 0} (f : A → List B) (y : B) (xs : List A) → IsOneOf y (flat_map f xs) → (x : A) × IsOneOf x xs × IsOneOf y (f x)
among_part f y [] h = absurd h
among_part f y (x ∷ xs) h = ⊎_elim
    (λ (l : IsOneOf y (f x)). (x, inl refl, l))
    (λ (r : IsOneOf y (flat_map f xs)). let t = among_part f y xs r in (t.0, inr t.1, t.2))
    (among_split y (f x) (flat_map f xs) h)
