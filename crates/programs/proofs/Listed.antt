-- Lists of a known length, by their members.
use Rattle.std.proofs.Common.{◌≡◌, ◌<◌, ◌≤◌, List, [], ◌∷◌, length, get_or, sym, arith}

module _ {A : Type 0} where
  pub listed_1 : (xs : List A) (a : A) → 1 ≤ length xs → length xs < 2 → a ≡ get_or xs 0 a → xs ≡ a ∷ []
  listed_1 [] a some few ea = absurd (omega arith)
  listed_1 (x ∷ []) a some few ea = λ i. sym ea i ∷ []
  listed_1 (x ∷ y ∷ xs) a some few ea = absurd (omega arith)

  listed_2 : (xs : List A) (a b : A) → 2 ≤ length xs → length xs < 3 → a ≡ get_or xs 0 a → b ≡ get_or xs 1 b → xs ≡ a ∷ b ∷ []
  listed_2 [] a b some few ea eb = absurd (omega arith)
  listed_2 (x ∷ xs) a b some few ea eb = λ i. sym ea i ∷ listed_1 xs b (omega arith) (omega arith) eb i

  pub listed_3 : (xs : List A) (a b c : A) → 3 ≤ length xs → length xs < 4 → a ≡ get_or xs 0 a → b ≡ get_or xs 1 b → c ≡ get_or xs 2 c → xs ≡ a ∷ b ∷ c ∷ []
  listed_3 [] a b c some few ea eb ec = absurd (omega arith)
  listed_3 (x ∷ xs) a b c some few ea eb ec = λ i. sym ea i ∷ listed_2 xs b c (omega arith) (omega arith) eb ec i

  pub listed_4 : (xs : List A) (a b c d : A) → 4 ≤ length xs → length xs < 5 → a ≡ get_or xs 0 a → b ≡ get_or xs 1 b → c ≡ get_or xs 2 c → d ≡ get_or xs 3 d → xs ≡ a ∷ b ∷ c ∷ d ∷ []
  listed_4 [] a b c d some few ea eb ec ed = absurd (omega arith)
  listed_4 (x ∷ xs) a b c d some few ea eb ec ed = λ i. sym ea i ∷ listed_3 xs b c d (omega arith) (omega arith) eb ec ed i

  pub listed_5 : (xs : List A) (a b c d e : A) → 5 ≤ length xs → length xs < 6 → a ≡ get_or xs 0 a → b ≡ get_or xs 1 b → c ≡ get_or xs 2 c → d ≡ get_or xs 3 d → e ≡ get_or xs 4 e → xs ≡ a ∷ b ∷ c ∷ d ∷ e ∷ []
  listed_5 [] a b c d e some few ea eb ec ed ee = absurd (omega arith)
  listed_5 (x ∷ xs) a b c d e some few ea eb ec ed ee = λ i. sym ea i ∷ listed_4 xs b c d e (omega arith) (omega arith) eb ec ed ee i
