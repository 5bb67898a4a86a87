-- Slots that come back in their order.
use Rattle.std.proofs.Common.{◌≡◌, List, [], ◌∷◌, ◌++◌, map, refl, ap, ◌∙◌, sym}

-- the last value of a list goes in front of another list
pub moved : {A B : Type 0} (f : A → B) (xs ys : List A) (x : A) (bs : List B) → ys ≡ xs ++ x ∷ [] → map f xs ++ (f x ∷ bs) ≡ map f ys ++ bs
moved {A} {B} f xs ys x bs e = front xs ∙ ap (λ l. map f l ++ bs) (sym e)
  where
    front : (l : List A) → map f l ++ (f x ∷ bs) ≡ map f (l ++ x ∷ []) ++ bs
    front [] = refl
    front (a ∷ l) = ap (λ t. f a ∷ t) (front l)
