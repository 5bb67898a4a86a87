-- Values that go from the front of one list to the end of another.
use Rattle.std.proofs.Common.{◌≡◌, ℕ, length, take, drop, List, [], ◌∷◌, ◌++◌, All, map, refl, sym, ap, ◌∙◌, subst, append_assoc}
use Rattle.std.proofs.Math.Seq.{take-append_seam}
use Rattle.std.proofs.lemmas.List.Elements.{All-push}

-- what stands after the values that were moved
pub moved_last : {A B : Type 0} (f : A → B) (xs ys : List A) (x : A) (bs : List B) → ys ≡ xs ++ x ∷ [] → map f ys ++ bs ≡ map f xs ++ (f x ∷ bs)
moved_last {A} {B} f xs ys x bs e = ap (λ l. map f l ++ bs) e ∙ front xs
  where
    front : (l : List A) → map f (l ++ x ∷ []) ++ bs ≡ map f l ++ (f x ∷ bs)
    front [] = refl
    front (a ∷ l) = ap (λ t. f a ∷ t) (front l)

-- the value that was moved
pub moved_one : {B : Type 0} (old new rest : List B) (b : B) → new ≡ old ++ b ∷ [] → new ++ rest ≡ old ++ (b ∷ rest)
moved_one old new rest b e = ap (λ l. l ++ rest) e ∙ append_assoc old (b ∷ []) rest

pub All_last : {A : Type 0} (P : A → Type 0) (xs ys : List A) (x : A) → ys ≡ xs ++ x ∷ [] → All P xs → P x → All P ys
All_last P xs ys x e h p = subst (All P) (sym e) (All-push P xs x h p)

-- what was lent whole and came back as long
pub written_all : {A : Type 0} (xs ys : List A) (n : ℕ) → n ≡ length ys → take n (ys ++ drop (length ys) xs) ≡ ys
written_all xs ys n e = ap (λ k. take k (ys ++ drop (length ys) xs)) e ∙ take-append_seam ys (drop (length ys) xs)
