-- Connections that were visited together, each with what it is then.
use Rattle.std.proofs.Common.{ℕ, List, [], ◌∷◌, map}
use Rattle.std.specs.Prelude.{zip}
use Rattle.std.specs.List.{AllZip}
use Rattle.history.specs.Handles.{Passed}
use Rattle.answering.specs.Connections.{Unended}
use Rattle.answering.specs.Gathering.{Known, AreVisitedSo}
use Rattle.answering.specs.Serving.{World, world}
use Rattle.front.specs.Calls.{CallGives}
use Rattle.front.specs.Sessions.{WasVisited}

module _ {C K : Type 0} (ticks : C → ℕ → C → Type 0) (connection : K → Unended) where
  pub each_was : (w : World (Known Passed) C) (olds : List K) (w' : World (Known Passed) C) (news : List K) → AreVisitedSo CallGives ticks w (map connection olds) w' (map connection news) → AllZip (λ old new. WasVisited ticks (connection old) (connection new)) olds news
  each_was w [] w' [] same = tt
  each_was w [] w' (new ∷ news) never = absurd never
  each_was w (old ∷ olds) w' [] never = absurd never
  each_was w (old ∷ olds) w' (new ∷ news) (start, mid, goes_on, is, others) = ((world start w.clock, mid, is), each_was mid olds w' news others)

  pub in_pairs : (w : World (Known Passed) C) (olds : List K) (w' : World (Known Passed) C) (news : List K) → AreVisitedSo CallGives ticks w (map connection olds) w' (map connection news)
      → AreVisitedSo CallGives ticks w (map (λ (both : K × K). connection both.0) (zip olds news)) w' (map (λ (both : K × K). connection both.1) (zip olds news))
  in_pairs w [] w' [] same = same
  in_pairs w [] w' (new ∷ news) never = absurd never
  in_pairs w (old ∷ olds) w' [] never = absurd never
  in_pairs w (old ∷ olds) w' (new ∷ news) (start, mid, goes_on, is, others) = (start, mid, goes_on, is, in_pairs mid olds w' news others)
