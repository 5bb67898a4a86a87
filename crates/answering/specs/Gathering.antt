-- Visits of connections by one pass, one after another, whose calls are made together.
use Rattle.std.specs.Prelude.{◌≡◌, ◌⊎◌, ℕ, Bool, false, List, [], ◌∷◌, Some, Result}
use Rattle.accept.specs.Doubts.{is_doubt}
use Rattle.accept.specs.declared.call.Call.{Call}
use Rattle.accept.specs.declared.call.Reply.{Reply}
use Rattle.accept.specs.declared.fault.CallFault.{CallFault}
use Rattle.requests.specs.declared.fault.ServeFault.{ServeFault}
use Rattle.answering.specs.Calls.{Giving, CallsGive}
use Rattle.answering.specs.Connections.{Unended, IsLeftSo}
use Rattle.answering.specs.Serving.{World, world}
use Rattle.answering.specs.Turns.{IsOneTurn}
use Rattle.answering.specs.Visits.{IsVisit}
use Rattle.answering.specs.declared.visiting.Visited.{Visited}

-- what is known between calls that are made together, and whether the last of them is in doubt
pub record Known (H : Type 0) : Type 0 where
  pub knows : H
  pub doubt : Bool

abbrev pub known : {H : Type 0} → H → Bool → Known H
known knows doubt = record { knows = knows; doubt = doubt }

-- what a call gives, where it is known whether the call before it is in doubt
abbrev pub among : {H : Type 0} → Giving H → Giving (Known H)
among gives doubt old call outcome new = gives old.doubt old.knows call outcome new.knows
    × (new.doubt ≡ is_doubt outcome)

-- the next call is made with the one before it, or alone: then none before it is in doubt
abbrev pub MayGoOn : {H : Type 0} → Known H → Known H → Type 0
MayGoOn old new = (new ≡ old) ⊎ (new ≡ known old.knows false)

-- whether the last call is in doubt, where this came of those that were made
abbrev pub doubt_after : Bool → List (Result Reply CallFault) → Bool
doubt_after doubt [] = doubt
doubt_after doubt (r ∷ rs) = doubt_after (is_doubt r) rs

module _ {H C : Type 0} (gives : Giving H) (ticks : C → ℕ → C → Type 0) where
  -- from one connection to another by a visit, which is one turn: it answers one request at most
  pub record IsVisitedSo (w : World (Known H) C) (old : Unended) (w' : World (Known H) C)
      (new : Unended) : Type 0 where
    pub result : Result Visited ServeFault
    pub left : IsLeftSo result old new
    pub is : IsVisit (among gives) ticks (Some old.text) (Some new.text) old.came w new.came w' result
    pub turned : IsOneTurn (among gives) ticks w old w' new

  -- each connection was visited, one after another
  abbrev pub AreVisitedSo : World (Known H) C → List Unended → World (Known H) C → List Unended → Type 0
  AreVisitedSo w [] w' [] = w' ≡ w
  AreVisitedSo w (old ∷ olds) w' (new ∷ news) = (start : Known H) × (mid : World (Known H) C)
      × MayGoOn w.knows start × IsVisitedSo (world start w.clock) old mid new
      × AreVisitedSo mid olds w' news
  AreVisitedSo w olds w' news = ⊥

  -- for private clauses: these calls gave these outcomes, and then the connections were visited
  pub record AreGathered (w : World H C) (calls : List Call) (olds : List Unended)
      (outcomes : List (Result Reply CallFault)) (w' : World H C) (news : List Unended) : Type 0 where
    pub between : H
    pub given : CallsGive gives w.knows calls outcomes between
    pub doubt : Bool
    pub visited : AreVisitedSo (world (known between (doubt_after false outcomes)) w.clock) olds
        (world (known w'.knows doubt) w'.clock) news
