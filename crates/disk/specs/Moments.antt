-- What a crash at any moment of several calls leaves.
use Rattle.std.specs.Prelude.{◌≤◌, ◌⊎◌, ℕ, List}
use Rattle.std.proofs.Common.{inl, inr, arith}
use Rattle.disk.specs.Sight.{Sight}

-- A crash at any moment since old leaves bytes that have P.
pub record LeavesOnly (old new : Sight) (P : List ℕ → Type 0) : Type 0 where
  pub later : old.moment ≤ new.moment
  pub each : (c : List ℕ) → new.left_since old.moment c → P c
  -- for a run that began earlier
  pub before : (t : ℕ) (c : List ℕ) → t ≤ old.moment → new.left_since t c → old.left_since t c ⊎ P c

-- before any call
pub started : (old : Sight) (P : List ℕ → Type 0)
    → ((c : List ℕ) → old.left_since old.moment c → P c)
    → LeavesOnly old old P
started old P each = record { later = omega arith; each = each; before = λ t c le left. inl left }

-- one run of calls after another
pub in_turn : {old mid new : Sight} (P : List ℕ → Type 0) → LeavesOnly old mid P
    → LeavesOnly mid new P
    → LeavesOnly old new P
in_turn {old} {mid} {new} P first second = record {
  later = omega (arith, first.later, second.later);
  each =
      λ c left. elim (second.before old.moment c first.later left)
      [ inl before ↦ first.each c before | inr later ↦ later ];
  before =
      λ t c le left. elim (second.before t c (omega (arith, first.later)) left)
      [ inl before ↦ first.before t c le before | inr later ↦ inr later ];
}

-- a property that follows
pub weaker : {old new : Sight} (P Q : List ℕ → Type 0) → ((c : List ℕ) → P c → Q c)
    → LeavesOnly old new P
    → LeavesOnly old new Q
weaker P Q follows run = record {
  later = run.later;
  each = λ c left. follows c (run.each c left);
  before = λ t c le left. elim
      (run.before t c le left) [ inl before ↦ inl before | inr here ↦ inr (follows c here) ];
}
