-- The whole of an input that is no longer than a body may be.
use Rattle.std.proofs.Common.{◌≡◌, ℕ, ◌+◌, ◌≤◌, ◌++◌, List, [], length, take, Option, None, Some, ap, ◌∙◌, subst, arith}
use Rattle.std.specs.Prelude.{IfSome, option_map}
use Rattle.std.proofs.lemmas.List.{length-take, take_all}

-- what was taken of some bytes, and is shorter than what may be taken, is all of them
all_taken : (n : ℕ) (bytes items : List ℕ) → items ≡ take (n + 1) bytes → length items ≤ n → items ≡ bytes
all_taken n bytes items is short =
    is ∙ take_all (n + 1) bytes (omega (arith, short, ap length is, length-take (n + 1) bytes))

pub whole_body : {R : Type 0} (remaining : R → Option (List ℕ)) (inner self : R) (limit n : ℕ) (front items : List ℕ) → front ≡ [] → limit ≡ n + 1 → inner ≡ self → IfSome (option_map (take limit) (remaining inner)) (λ xs. items ≡ front ++ xs)
    → length items ≤ n → IfSome (remaining self) (λ bytes. items ≡ bytes)
whole_body remaining inner self limit n front items none one same h short =
    here (remaining self) (subst (λ r. IfSome (option_map (take (n + 1)) (remaining r)) (λ xs. items ≡ [] ++ xs)) same
    (subst (λ (k : ℕ). IfSome (option_map (take k) (remaining inner)) (λ xs. items ≡ [] ++ xs)) one
    (subst (λ (f : List ℕ). IfSome (option_map (take limit) (remaining inner)) (λ xs. items ≡ f ++ xs)) none h)))
  where
    here : (o : Option (List ℕ)) → IfSome (option_map (take (n + 1)) o) (λ xs. items ≡ [] ++ xs) → IfSome o (λ bytes. items ≡ bytes)
    here None k = tt
    here (Some bytes) k = all_taken n bytes items k short
