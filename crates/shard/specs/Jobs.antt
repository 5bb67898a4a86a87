-- Jobs: calls that are to be made, each with its ticket.
use Rattle.std.specs.Prelude.{◌≡◌, ℕ, ◌==◌, List, [], ◌∷◌, ◌++◌, if◌then◌else◌}
use Rattle.accept.specs.declared.call.Call.{Call}
use Rattle.accept.specs.declared.history.Ask.{Ask}
use Rattle.accept.specs.declared.history.Item.{Item}
use Rattle.accept.specs.Calls.{AreNumbers}
use Rattle.history.specs.declared.views.About.{About}
use Rattle.history.specs.Histories.{HaveSteps, shard_in, of_pass}
use Rattle.history.specs.Handles.{Announced, Booked}
use Rattle.shard.specs.declared.first_jobs.Job.{Job}
use Rattle.shard.specs.Groups.{HaveStepsOr}

-- the most calls of a turn
abbrev pub max_turn : ℕ
max_turn = 64

abbrev pub tickets_of : List Job → List Announced
tickets_of [] = []
tickets_of (j ∷ jobs) = j.ticket ∷ tickets_of jobs

-- each call is its ticket's, is of shard k, and has lawful numbers
abbrev pub AreLawful : About → ℕ → List Job → Type 0
AreLawful about k [] = Unit {0}
AreLawful about k (j ∷ jobs) = (shard_in about j.ticket.ask ≡ k) × (j.ticket.ask.call ≡ j.call)
    × AreNumbers j.call
    × AreLawful about k jobs

-- The call of this ticket may be made next: the ticket is of the book's table and shard, the calls that it names have
-- steps, and the call is its own, with lawful numbers.
pub record MayBeMade (book : Booked) (ticket : Announced) (call : Call) : Type 0 where
  pub table : ticket.table ≡ book.table
  pub here : shard_in book.about ticket.ask ≡ book.shard
  pub order : HaveSteps ticket.before book.items
  pub call_is : ticket.ask.call ≡ call
  pub numbers : AreNumbers call

-- the jobs of pass p
abbrev pub jobs_by : ℕ → List Job → List Job
jobs_by p [] = []
jobs_by p (j ∷ jobs) = if p == j.ticket.ask.pass then j ∷ jobs_by p jobs else jobs_by p jobs

-- the jobs of other passes
abbrev pub jobs_but : ℕ → List Job → List Job
jobs_but p [] = []
jobs_but p (j ∷ jobs) = if p == j.ticket.ask.pass then jobs_but p jobs else j ∷ jobs_but p jobs

-- each ticket names calls with a step, and calls of its own pass that are in front of it
abbrev pub AreInPassTurn : List Item → List Ask → List Announced → Type 0
AreInPassTurn items front [] = Unit {0}
AreInPassTurn items front (t ∷ ts) = HaveStepsOr t.before items (of_pass t.ask.pass front)
    × AreInPassTurn items (front ++ t.ask ∷ []) ts
