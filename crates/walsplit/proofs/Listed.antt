-- A list of three, by its members.
use Rattle.std.proofs.Common.{◌≡◌, ◌<◌, ◌≤◌, List, [], ◌∷◌, length, get_or, sym, arith}

module _ {A : Type 0} where
  listed_1 : (xs : List A) (a : A) → 1 ≤ length xs → length xs < 2 → a ≡ get_or xs 0 a → xs ≡ a ∷ []
  listed_1 [] a some few ea = absurd (omega arith)
  listed_1 (x ∷ []) a some few ea = λ i. sym ea i ∷ []
  listed_1 (x ∷ y ∷ xs) a some few ea = absurd (omega arith)

  listed_2 : (xs : List A) (a b : A) → 2 ≤ length xs → length xs < 3 → a ≡ get_or xs 0 a → b ≡ get_or xs 1 b → xs ≡ a ∷ b ∷ []
  listed_2 [] a b some few ea eb = absurd (omega arith)
  listed_2 (x ∷ xs) a b some few ea eb = λ i. sym ea i ∷ listed_1 xs b (omega arith) (omega arith) eb i

  pub listed_3 : (xs : List A) (a b c : A) → 3 ≤ length xs → length xs < 4 → a ≡ get_or xs 0 a → b ≡ get_or xs 1 b → c ≡ get_or xs 2 c → xs ≡ a ∷ b ∷ c ∷ []
  listed_3 [] a b c some few ea eb ec = absurd (omega arith)
  listed_3 (x ∷ xs) a b c some few ea eb ec = λ i. sym ea i ∷ listed_2 xs b c (omega arith) (omega arith) eb ec i
