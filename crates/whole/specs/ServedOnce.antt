-- One connection, served by two shards of an opening without threads, until a crash cuts a turn.
use Rattle.std.specs.Prelude.{◌≡◌, ℕ, List, [], ◌∷◌, map, Result, Err}
use Rattle.atomic_table.specs.Seated.{TableId}
use Rattle.headline.specs.Types.{Call, InDoubt, Item, Caller, Sight, Follow, Sharded, Turn, Lead, Opening}
use Rattle.requests.specs.declared.fault.ServeFault.{ServeFault}
use Rattle.history.specs.Handles.{Passed, fresh_pass}
use Rattle.history.specs.Histories.{IsBeginning}
use Rattle.owners.specs.Places.{IsOf}
use Rattle.answering.specs.Calls.{Giving}
use Rattle.answering.specs.Connections.{Unended}
use Rattle.answering.specs.Gathering.{Known}
use Rattle.answering.specs.Serving.{World}
use Rattle.answering.specs.declared.visiting.Visited.{Visited}
use Rattle.headline.specs.Threads.{What, Called, Met, Thread, IsThread}
use Rattle.headline.specs.Headline.{IsOneOf}
use Rattle.headline.specs.Turns.{Between, Within}
use Rattle.headline.specs.Lives.{Life, CutAt, IsLife}
use Rattle.front.specs.Calls.{CallGives}
use Rattle.front.specs.Visits.{Visit, Line, IsVisited}
use Rattle.one_life.specs.declared.opening.Two.{Two}
use Rattle.one_life.specs.Cut.{IsIdle}
use Rattle.whole.specs.Visits.{Worker, IsWorker, IsLine, AreThreadsOf}
use Rattle.whole.specs.Whole.{IsWhole}

-- this came of a call of the first pass
abbrev pub FirstGives : {D : Type 0} → Giving (Two D)
FirstGives doubt old call outcome new = CallGives doubt old.one call outcome new.one

-- the first visit of a connection, in which these bytes had come and nothing waited to be sent, and how it left it
abbrev pub first_visit : {C : Type 0} → List ℕ → Unended → World (Known Passed) C
    → World (Known Passed) C → Result Visited ServeFault → Visit C
first_visit bytes left before after result = record {
  held = [];
  taken = bytes;
  waiting = [];
  text = left.text;
  rest = left.came;
  before = before;
  after = after;
  result = result;
}

-- so it was visited, however the visit ended
abbrev pub IsFirstVisited : {C : Type 0} → (C → ℕ → C → Type 0) → List ℕ → Unended
    → World (Known Passed) C → World (Known Passed) C → Type 0
IsFirstVisited ticks bytes left before after = (ended : Result Visited ServeFault)
    × IsVisited ticks (first_visit bytes left before after ended)

-- a connection of one visit, of which this was sent
abbrev pub line_sent : {C : Type 0} → Visit C → List ℕ → Line C
line_sent visit sent = record { visits = visit ∷ []; later = []; sent = sent }

-- a pass met another, and then this happened to it
abbrev pub HasMetAnd : List What → List What → Type 0
HasMetAnd after whats = (other : Caller) × (theirs : List (List Item))
    × (whats ≡ Met other theirs ∷ after)

module _ {D : Type 0} (sight : D → Sight) (follows : D → Type 0) where
  -- turns lead from the one to the other
  pub record HasTurned (old new : Sharded D) : Type 0 where
    pub turns : List (Turn D)
    pub lead : Lead sight follows old turns new

  -- Shard 0 and shard 1 of this opening of two shards, by turns from when they were opened. Of its passes the first
  -- waits for no answer, and the second made no call.
  pub record AreServing (table : TableId) (opening : Opening D) (it : Two D) : Type 0 where
    pub same_table : opening.table ≡ table
    pub two_shards : opening.about.shards ≡ 2
    pub first : IsOf sight follows opening 0 it.first
    pub second : IsOf sight follows opening 1 it.second
    pub one : IsIdle opening.table opening.about it.one
    pub two : it.two ≡ fresh_pass opening.table opening.about 1

  module _ {C : Type 0} (ticks : C → ℕ → C → Type 0) where
    -- All that the law `whole` asks for, and what it says. Two shards were opened over these slots, with two passes,
    -- each a worker's. The first worker visited a connection of which these bytes had come, and put this text to be
    -- sent; its clock went from the first of these two to the second. Then the passes met. Then a crash came at any
    -- moment of the turn that the first shard made for a further call of the first pass, of whose outcome nobody
    -- learned. The second shard was between two turns. The two are workers of the opening, and whatever beginning of
    -- the text was sent, the connection is theirs. Where the disks have followed the model, this is a life, with these
    -- threads and with any that are the workers' (as the law hands them out), and the front page's sentence holds of
    -- it.
    pub record IsServedOnce (given : List (List D)) (bytes : List ℕ) (clocks : C × C) (text : List ℕ)
        (last : Call) (it : Two D) : Type 0 where
      pub life : Life D
      pub given_are : life.given ≡ given
      pub cut : Turn D
      pub cut_is : cut.new ≡ it.first
      pub turns : List (Turn D)
      pub others : List (Turn D)
      pub ends_are : life.ends
          ≡ CutAt (record { turns = turns; moment = Within cut })
          ∷ CutAt (record { turns = others; moment = Between it.second }) ∷ []
      pub visit : Visit C
      pub bytes_are : visit.taken ≡ bytes
      pub text_is : visit.text ≡ text
      pub clocks_are : (visit.before.clock ≡ clocks.0) × (visit.after.clock ≡ clocks.1)
      pub worker : Worker C
      pub visits_are : worker.visits ≡ visit ∷ []
      pub since : HasMetAnd (Called last (Err InDoubt) ∷ []) (map (λ h. h.what) worker.since)
      pub other : Worker C
      pub no_visits : other.visits ≡ []
      pub other_since : HasMetAnd [] (map (λ h. h.what) other.since)
      pub are_workers : (w : Worker C) → IsOneOf w (worker ∷ other ∷ [])
          → IsWorker ticks life.opening w
      pub is_line : (sent : List ℕ) → IsBeginning sent text
          → IsLine (worker ∷ other ∷ []) (line_sent visit sent)
      pub are_threads : AreThreadsOf (worker ∷ other ∷ []) life.threads
      pub is_life : Follow follows it.first.log → Follow follows it.second.log
          → IsLife sight follows life
      pub lives_with : (threads : List Thread) → AreThreadsOf (worker ∷ other ∷ []) threads
          → ((t : Thread) → IsOneOf t threads → IsThread life.opening t)
          → Follow follows it.first.log → Follow follows it.second.log
          → IsLife sight follows (record life { threads = threads })
      pub is_whole : Follow follows it.first.log → Follow follows it.second.log
          → (sent : List ℕ) → IsBeginning sent text
          → IsWhole sight follows ticks life (worker ∷ other ∷ []) (line_sent visit sent ∷ [])
