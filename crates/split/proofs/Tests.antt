-- Slots that are measured.
use Rattle.std.proofs.Common.{◌≡◌, ◌≢◌, ◌⊎◌, inl, inr, ℕ, ◌<◌, List, [], ◌∷◌, length, set, refl, sym, subst}
use Rattle.std.specs.Prelude.{Result, Ok, Err, IfErr}
use Rattle.disk.specs.Sight.{Sight}
use Rattle.split.specs.declared.fault.SplitFault.{SplitFault}
use Rattle.split.specs.declared.fault.SplitFault.TheVariants.{NotEmpty, Device}
use Rattle.split.specs.Splits.{pair_at, EachPair, IsAtRest, HasNotFailed, AreOldRead, IsCause}
use Rattle.split.specs.Stages.{AreDone, IsTested, IsTestFault, filled, unmeasured}
use Rattle.split.proofs.Pairs.{KnowsNow, untouched, stopped, before_stop, at_stop}

module _ {D : Type 0} (sight : D → Sight) (follows : D → Type 0) where
  pub first_fault : (s : ℕ) (first first_new second : D) (fault : SplitFault)
      → ((fault ≡ NotEmpty s 0) × (follows first_new → (sight first).seen ≢ [])) ⊎ ((fault ≡ Device s) × ((sight first_new).failures ≢ (sight first).failures))
      → IsTestFault sight follows s (first ∷ second ∷ []) (first_new ∷ second ∷ []) fault
  first_fault s first first_new second fault (inl full) = filled 0 full.0 (λ follow. inl (refl, full.1 follow.0))
  first_fault s first first_new second fault (inr failed) = unmeasured failed.0 (inl failed.1)

  second_fault : (s : ℕ) (first first_new second second_new : D) (fault : SplitFault) → (follows first_new → (sight first).seen ≡ [])
      → ((fault ≡ NotEmpty s 1) × (follows second_new → (sight second).seen ≢ [])) ⊎ ((fault ≡ Device s) × ((sight second_new).failures ≢ (sight second).failures))
      → IsTestFault sight follows s (first ∷ second ∷ []) (first_new ∷ second_new ∷ []) fault
  second_fault s first first_new second second_new fault none (inl full) = filled 1 full.0 (λ follow. inr (refl, none follow.0, full.1 follow.1.0))
  second_fault s first first_new second second_new fault none (inr failed) = unmeasured failed.0 (inr failed.1)

  pub second_if_err : (r : Result (Unit {0}) SplitFault) (s : ℕ) (first first_new second second_new : D) → (follows first_new → (sight first).seen ≡ [])
      → IfErr r (λ fault. ((fault ≡ NotEmpty s 1) × (follows second_new → (sight second).seen ≢ [])) ⊎ ((fault ≡ Device s) × ((sight second_new).failures ≢ (sight second).failures)))
      → IfErr r (λ fault. IsTestFault sight follows s (first ∷ second ∷ []) (first_new ∷ second_new ∷ []) fault)
  second_if_err (Ok x) s first first_new second second_new none h = tt
  second_if_err (Err e) s first first_new second second_new none h = second_fault s first first_new second second_new e none h

  pub tests_stop : KnowsNow sight follows → (n : ℕ) (xs ys zs : List (List D)) → AreDone (λ _. IsTested sight follows) n xs ys → zs ≡ set ys n (pair_at zs n) → IsAtRest sight follows (pair_at ys n) (pair_at zs n) → EachPair (λ _. IsAtRest sight follows) xs zs
  tests_stop now n xs ys zs so_far is one = stopped (λ _. IsTested sight follows) (λ _. IsAtRest sight follows) n xs ys zs (pair_at zs n) so_far is (λ s given back tested. tested.rests) one (λ s given. untouched sight follows now given)

  -- no device of another shard has failed
  tests_others : (n : ℕ) (xs ys zs : List (List D)) → AreDone (λ _. IsTested sight follows) n xs ys → zs ≡ set ys n (pair_at zs n) → EachPair (λ s given back. s ≢ n → HasNotFailed sight follows given back) xs zs
  tests_others n xs ys zs so_far is =
      stopped (λ _. IsTested sight follows) (λ s given back. s ≢ n → HasNotFailed sight follows given back) n xs ys zs (pair_at zs n) so_far is (λ s given back tested not. tested.not_failed) (λ not. absurd (not refl)) (λ s given not. (refl, refl))

  pub test_cause : KnowsNow sight follows → (n : ℕ) (xs ys zs : List (List D)) (fault : SplitFault) → n < length xs → AreDone (λ _. IsTested sight follows) n xs ys → zs ≡ set ys n (pair_at zs n)
      → IsAtRest sight follows (pair_at ys n) (pair_at zs n) → IsTestFault sight follows n (pair_at ys n) (pair_at zs n) fault → (cap : ℕ) (old old_back : List (List D)) → AreOldRead sight follows old old_back → IsCause sight follows fault cap old old_back xs zs
  test_cause now n xs ys zs fault lt so_far is one why cap old old_back read = cause (at_stop (λ _. IsTested sight follows) (λ given back. IsTestFault sight follows n given back fault) n xs ys (pair_at zs n) so_far why)
    where
      cause : IsTestFault sight follows n (pair_at xs n) (pair_at zs n) fault → IsCause sight follows fault cap old old_back xs zs
      cause (filled slot is_full full) = subst (λ (e : SplitFault). IsCause sight follows e cap old old_back xs zs) (sym is_full) (record {
        read = read;
        within = lt;
        full = full;
        before = λ i under follow. (before_stop (λ _. IsTested sight follows) n xs ys zs (pair_at zs n) so_far is i under).empty follow;
        rests = λ follow. tests_stop now n xs ys zs so_far is one;
      })
      cause (unmeasured is_broken failed) = subst (λ (e : SplitFault). IsCause sight follows e cap old old_back xs zs) (sym is_broken) (record {
        read = read;
        within = lt;
        failed = failed;
        before = λ i under follow. (before_stop (λ _. IsTested sight follows) n xs ys zs (pair_at zs n) so_far is i under).empty follow;
        others = tests_others n xs ys zs so_far is;
      })
