-- What holds of the items of two lists at each place: after a push to both, after a pop of both, and after each of the
-- first was changed.
use Rattle.std.proofs.Common.{◌≡◌, List, [], ◌∷◌, ◌++◌, drop, sym, subst}
use Rattle.std.specs.List.{AllZip}
use mathlib.Core.HLevel.{⊥_prop}
use mathlib.Core.Logic.{∥∥₁_elim, ∥∥₁_map, ∥∥₁_map₂}

module _ {T L : Type 0} (R : T → L → Type 0) where
  same_lists : (ts ts' : List T) (ls ls' : List L) → ts' ≡ ts → ls' ≡ ls → AllZip R ts ls → AllZip R ts' ls'
  same_lists ts ts' ls ls' is beside all = subst (λ xs. AllZip R xs ls') (sym is) (subst (λ ys. AllZip R ts ys) (sym beside) all)

  one_more : (ts : List T) (ls : List L) (t : T) (l : L) → AllZip R ts ls → R t l → AllZip R (ts ++ t ∷ []) (ls ++ l ∷ [])
  one_more [] [] t l all this = (this, tt)
  one_more (s ∷ ts) (m ∷ ls) t l all this = (all.0, one_more ts ls t l all.1 this)
  one_more ts ls t l all this = absurd all

  pub both_pushed : (ts ts' : List T) (ls ls' : List L) (t : T) (l : L) → ts' ≡ ts ++ t ∷ [] → ls' ≡ ls ++ l ∷ [] → ∥ AllZip R ts ls ∥₁ → ∥ R t l ∥₁ → ∥ AllZip R ts' ls' ∥₁
  both_pushed ts ts' ls ls' t l is beside all this =
      ∥∥₁_map₂ all this (λ a r. same_lists (ts ++ t ∷ []) ts' (ls ++ l ∷ []) ls' is beside (one_more ts ls t l a r))

  rest : (ts : List T) (ls : List L) → AllZip R ts ls → AllZip R (drop 1 ts) (drop 1 ls)
  rest [] [] all = tt
  rest (t ∷ ts) (l ∷ ls) all = all.1
  rest ts ls all = absurd all

  pub both_popped : (ts ts' : List T) (ls ls' : List L) → ts' ≡ drop 1 ts → ls' ≡ drop 1 ls → ∥ AllZip R ts ls ∥₁ → ∥ AllZip R ts' ls' ∥₁
  both_popped ts ts' ls ls' is beside all = ∥∥₁_map all (λ a. same_lists (drop 1 ts) ts' (drop 1 ls) ls' is beside (rest ts ls a))

  pub first_of_both : (ts ts' : List T) (ls ls' : List L) (t : T) (l : L) → ts ≡ t ∷ ts' → ls ≡ l ∷ ls' → ∥ AllZip R ts ls ∥₁ → ∥ R t l ∥₁
  first_of_both ts ts' ls ls' t l is beside all =
      ∥∥₁_map all (λ a. (same_lists ts (t ∷ ts') ls (l ∷ ls') (sym is) (sym beside) a).0)

  pub none_beside : (ts ts' : List T) (ls : List L) (t : T) → ts ≡ t ∷ ts' → ls ≡ [] → ∥ AllZip R ts ls ∥₁ → ⊥
  none_beside ts ts' ls t is none all = ∥∥₁_elim all ⊥_prop (λ a. same_lists ts (t ∷ ts') ls [] (sym is) (sym none) a)

module _ {T L : Type 0} (Q R : T → L → Type 0) (becomes : T → T → Type 0) (step : (t t' : T) (l : L) → becomes t t' → Q t l → R t' l) where
  each_is : (ts ts' : List T) (ls : List L) → AllZip becomes ts ts' → AllZip Q ts ls → AllZip R ts' ls
  each_is [] [] [] each all = tt
  each_is [] [] (l ∷ ls) each all = absurd all
  each_is (t ∷ ts) (t' ∷ ts') [] each all = absurd all
  each_is (t ∷ ts) (t' ∷ ts') (l ∷ ls) each all = (step t t' l each.0 all.0, each_is ts ts' ls each.1 all.1)
  each_is ts ts' ls each all = absurd each

  pub each_became : (ts ts' : List T) (ls : List L) → AllZip becomes ts ts' → ∥ AllZip Q ts ls ∥₁ → ∥ AllZip R ts' ls ∥₁
  each_became ts ts' ls each all = ∥∥₁_map all (each_is ts ts' ls each)
