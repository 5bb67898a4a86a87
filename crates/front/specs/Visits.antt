-- Visits of connections: by a pass, one after another, and of one connection.
use Rattle.std.specs.Prelude.{◌≡◌, ℕ, List, [], ◌∷◌, ◌++◌, Some, Result, Ok, Err}
use Rattle.std.specs.List.{flat_map}
use Rattle.history.specs.Handles.{Passed}
use Rattle.history.specs.Histories.{IsBeginning}
use Rattle.requests.specs.declared.fault.ServeFault.{ServeFault}
use Rattle.answering.specs.Gathering.{Known, MayGoOn, among}
use Rattle.answering.specs.Serving.{World}
use Rattle.answering.specs.Visits.{IsVisit}
use Rattle.answering.specs.declared.visiting.Visited.{Visited}
use Rattle.answering.specs.declared.visiting.Visited.TheVariants.{More, Unfinished, Closed}
use Rattle.front.specs.Calls.{CallGives}

-- A visit of a connection: the bytes that the visit before it left, those that were taken in since, and the text that
-- waited to be sent; the text that the visit put behind that, and the bytes that it left; what the worker's pass knew,
-- whether its last call was in doubt, and what its clock told, before and after; and how it ended.
pub record Visit (C : Type 0) : Type 0 where
  pub held : List ℕ
  pub taken : List ℕ
  pub waiting : List ℕ
  pub text : List ℕ
  pub rest : List ℕ
  pub before : World (Known Passed) C
  pub after : World (Known Passed) C
  pub result : Result Visited ServeFault

-- A connection: its visits, one after another, the bytes that were taken in since the last of them, and what was sent.
pub record Line (C : Type 0) : Type 0 where
  pub visits : List (Visit C)
  pub later : List ℕ
  pub sent : List ℕ

-- all bytes that were read of it
abbrev pub bytes_of : {C : Type 0} → Line C → List ℕ
bytes_of line = flat_map (λ v. v.taken) line.visits ++ line.later

-- all that its visits put to be sent
abbrev pub text_put : {C : Type 0} → Line C → List ℕ
text_put line = flat_map (λ v. v.text) line.visits

-- it goes on so where a visit keeps the connection, and ends so where not
abbrev pub IsKeptOrNot : Result Visited ServeFault → Type 0 → Type 0 → Type 0
IsKeptOrNot (Ok More) goes_on ends = goes_on
IsKeptOrNot (Ok (Unfinished n)) goes_on ends = goes_on
IsKeptOrNot (Ok Closed) goes_on ends = ends
IsKeptOrNot (Err fault) goes_on ends = ends

-- Each visit begins with the bytes that the one before it left. One that ends the connection is the last.
abbrev pub AreJoined : {C : Type 0} → List ℕ → List (Visit C) → List ℕ → Type 0
AreJoined held [] later = Unit {0}
AreJoined held (v ∷ vs) later = (v.held ≡ held)
    × IsKeptOrNot v.result (AreJoined v.rest vs later) ((vs ≡ []) × (later ≡ []))

module _ {C : Type 0} (ticks : C → ℕ → C → Type 0) where
  -- one of the visits that `Service::visit_all` makes
  abbrev pub IsVisited : Visit C → Type 0
  IsVisited v = IsVisit (among CallGives) ticks (Some v.waiting) (Some (v.waiting ++ v.text))
      (v.held ++ v.taken) v.before v.rest v.after v.result

  -- visits by one pass, one after another
  abbrev pub AreVisits : Known Passed → List (Visit C) → Known Passed → Type 0
  AreVisits start [] end = end ≡ start
  AreVisits start (v ∷ vs) end = MayGoOn start v.before.knows × IsVisited v
      × AreVisits v.after.knows vs end

  -- each is a visit
  abbrev pub AreVisited : List (Visit C) → Type 0
  AreVisited [] = Unit {0}
  AreVisited (v ∷ vs) = IsVisited v × AreVisited vs

  -- Of a connection, whoever visited it: its visits join, and what was sent is a beginning of what they put to be sent.
  pub record IsVisitedLine (line : Line C) : Type 0 where
    pub visited : AreVisited line.visits
    pub joined : AreJoined [] line.visits line.later
    pub sent : IsBeginning line.sent (text_put line)
