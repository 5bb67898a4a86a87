-- One more act.
use Rattle.std.proofs.Common.{◌≡◌, ◌≤◌, ◌<◌, ◌⊎◌, ℕ, ◌+◌, List, [], ◌∷◌, ◌++◌, length, take, refl, subst, sym, inl, inr, arith}
use Rattle.std.proofs.lemmas.List.{take_all, take-append-le, length_push}
use Rattle.disk.specs.Sight.{Elapses}
use Rattle.disk.specs.State.{Act, State, act, state_after, IsImage, sight_of}
use Rattle.disk.proofs.Ranges.{ltb_cases}

pub state_after-push : (s : State) (acts : List Act) (a : Act) → state_after s (acts ++ a ∷ []) ≡ act (state_after s acts) a
state_after-push s [] a = refl
state_after-push s (b ∷ acts) a = state_after-push (act s b) acts a

before_or_now : (start : State) (acts : List Act) (a : Act) (c : List ℕ) (t k : ℕ) → t ≤ k → k ≤ length (acts ++ a ∷ [])
    → IsImage (state_after start (take k (acts ++ a ∷ []))) c → (k < length acts + 1) ⊎ (length acts + 1 ≤ k)
    → ((j : ℕ) × (t ≤ j) × (j ≤ length acts) × IsImage (state_after start (take j acts)) c) ⊎ IsImage (state_after start (acts ++ a ∷ [])) c
before_or_now start acts a c t k low high image (inl before) =
    inl (k, low, omega arith, subst (λ (xs : List Act). IsImage (state_after start xs) c) (take-append-le k acts (a ∷ []) (omega arith)) image)
before_or_now start acts a c t k low high image (inr now) =
    inr (subst (λ (xs : List Act). IsImage (state_after start xs) c) (take_all k (acts ++ a ∷ []) (omega (arith, length_push acts a))) image)

-- time goes on by an act
pub elapses-push : (start : State) (acts : List Act) (a : Act) (f f' : ℕ) → Elapses (sight_of start acts f) (sight_of start (acts ++ a ∷ []) f')
elapses-push start acts a f f' = record {
  later = omega (arith, length_push acts a);
  nothing_else = λ t c le left. before_or_now start acts a c t left.0 left.1 left.2 left.3 (ltb_cases left.0 (length acts + 1));
  keeps = λ t c le left. (
    left.0,
    left.1,
    omega (arith, left.2, length_push acts a),
    subst (λ (xs : List Act). IsImage (state_after start xs) c) (sym (take-append-le left.0 acts (a ∷ []) left.2)) left.3,
  );
}
