-- What becomes of workers, and of their passes.
use Rattle.std.specs.Prelude.{◌≡◌, ◌⊎◌, ℕ, Bool, false, List, [], ◌∷◌, ◌++◌, map, reverse}
use Rattle.talks.specs.Talks.{Visits}
use Rattle.workers.specs.declared.accepting.AcceptEnd.{AcceptEnd}
use Rattle.workers.specs.declared.accepting.AcceptEnd.TheVariants.{All, NoWorker}
use Rattle.workers.specs.declared.worker.Why.{Why}
use Rattle.workers.specs.declared.worker.Why.TheVariants.{NoMore, PassClosed}

-- Passes that no thread has, and those with which threads started, the last thread first: so they stood before the
-- threads were started, each with the last pass that was left.
abbrev pub with_starts : {P T : Type 0} → (T → P) → List P → List T → List P
with_starts start passes threads = passes ++ reverse (map start threads)

module _ {I S P T : Type 0} (visits : I → S → P → List (T × T) → S → P → Type 0) (service : I) where
  -- from one pass to another by visits, by whichever server it is then
  abbrev pub WasServed : S → P → P → Type 0
  WasServed server pass pass' = (server' : S) × Visits visits service server pass server' pass'

  -- a pass as visits by some server left it, or as it was
  abbrev pub IsPassLeft : P → P → Type 0
  IsPassLeft pass pass' = (pass' ≡ pass) ⊎ ((server : S) × WasServed server pass pass')

  -- passes, each so in its place
  abbrev pub ArePassesLeft : List P → List P → Type 0
  ArePassesLeft [] [] = Unit {0}
  ArePassesLeft (p ∷ ps) (q ∷ qs) = IsPassLeft p q × ArePassesLeft ps qs
  ArePassesLeft ps qs = ⊥

-- why a worker ended: nobody sends it connections any more, or it may not go on with its pass
abbrev pub HasEnded : {P : Type 0} → (P → Bool) → Why → P → Type 0
HasEnded may_go_on (NoMore told) pass = Unit {0}
HasEnded may_go_on PassClosed pass = may_go_on pass ≡ false

-- why no more connections are accepted: all came that were to come, or no worker is left
abbrev pub IsServedFor : ℕ → AcceptEnd → Type 0
IsServedFor connections (All n) = n ≡ connections
IsServedFor connections NoWorker = Unit {0}
