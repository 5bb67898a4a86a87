-- What visits of connections say, and what their worker sees of them.
use Rattle.std.specs.Prelude.{ℕ, Bool, false, List}
use Rattle.history.specs.Handles.{Passed}
use Rattle.answering.specs.Connections.{Unended}
use Rattle.answering.specs.Gathering.{Known, IsVisitedSo, AreVisitedSo, known}
use Rattle.answering.specs.Serving.{World, world}
use Rattle.front.specs.Calls.{CallGives}
use Rattle.talks.specs.Talks.{Seen}

abbrev pub session_seen : Unended → Seen
session_seen c = record { came = c.came; room = c.room; text = c.text; closes = c.closes }

module _ {C : Type 0} (ticks : C → ℕ → C → Type 0) where
  -- from one connection to another by some visit
  abbrev pub WasVisited : Unended → Unended → Type 0
  WasVisited old new = (w : World (Known Passed) C) × (w' : World (Known Passed) C)
      × IsVisitedSo CallGives ticks w old w' new

  -- from these connections to those by visits, one after another, in which a pass and a clock went from one world to
  -- the other
  abbrev pub WereVisited : World Passed C → List Unended → World Passed C → List Unended → Type 0
  WereVisited w olds w' news = (doubt : Bool)
      × AreVisitedSo CallGives ticks (world (known w.knows false) w.clock) olds
      (world (known w'.knows doubt) w'.clock) news
