-- Connections, the workers that visit them, and what happens to the passes of the workers meanwhile.
use Rattle.std.specs.Prelude.{◌≡◌, ℕ, Bool, false, List, [], ◌∷◌, ◌++◌, map}
use Rattle.std.specs.List.{flat_map}
use Rattle.headline.specs.Types.{Step, Opening}
use Rattle.history.specs.Handles.{Passed, fresh_pass}
use Rattle.history.specs.Histories.{IsBeginning, step_of}
use Rattle.answering.specs.Gathering.{Known, known}
use Rattle.front.specs.Visits.{Visit, Line, AreVisits, AreJoined, text_put}
use Rattle.headline.specs.Threads.{Happening, HappenAfter, Thread, AnsweredCall, answers_by}
use Rattle.headline.specs.Headline.{IsOneOf, ask_for}

-- A worker: the number of its pass, its visits, of whatever connections, one after another; what happened to its pass
-- since the last of them, in a visit that a crash cut; and what the pass knows at the end.
pub record Worker (C : Type 0) : Type 0 where
  pub number : ℕ
  pub visits : List (Visit C)
  pub since : List Happening
  pub end : Passed

-- all visits of these workers
abbrev pub visits_by : {C : Type 0} → List (Worker C) → List (Visit C)
visits_by workers = flat_map (λ w. w.visits) workers

-- Of a connection: its visits join, and each is one of the workers'; what was sent is a beginning of what they put to
-- be sent.
pub record IsLine {C : Type 0} (workers : List (Worker C)) (line : Line C) : Type 0 where
  pub joined : AreJoined [] line.visits line.later
  pub by_workers : (v : Visit C) → IsOneOf v line.visits → IsOneOf v (visits_by workers)
  pub sent : IsBeginning line.sent (text_put line)

-- the steps of the calls that were answered
abbrev pub its_step : AnsweredCall → Step
its_step a = step_of (ask_for a) a.reply

abbrev pub answered_among : List Happening → List AnsweredCall
answered_among hs = flat_map (λ h. answers_by h.before.caller h.what) hs

abbrev pub steps_among : List Happening → List Step
steps_among hs = map its_step (answered_among hs)

-- Of a worker of the opening: its pass was fresh, made its visits, and then this happened to it, whether or not the
-- call before is in doubt.
pub record IsWorker {D C : Type 0} (ticks : C → ℕ → C → Type 0) (opening : Opening D)
    (w : Worker C) : Type 0 where
  pub between : Known Passed
  pub visits : AreVisits ticks (known (fresh_pass opening.table opening.about w.number) false)
      w.visits between
  pub since : (lost : Bool) → HappenAfter lost opening between.knows w.since w.end

-- the worker's pass, with what happened to it
pub record IsThreadOf {C : Type 0} (w : Worker C) (t : Thread) : Type 0 where
  pub number : t.number ≡ w.number
  pub end : t.end ≡ w.end
  pub first : List Happening
  pub happened : t.happened ≡ first ++ w.since

-- each worker's, in their order
abbrev pub AreThreadsOf : {C : Type 0} → List (Worker C) → List Thread → Type 0
AreThreadsOf [] [] = Unit {0}
AreThreadsOf (w ∷ ws) (t ∷ ts) = IsThreadOf w t × AreThreadsOf ws ts
AreThreadsOf ws ts = ⊥
