-- Calls of one pass on their way: some are jobs, some are settled and wait to be taken in.
use Rattle.std.specs.Prelude.{◌≡◌, ◌⊎◌, ℕ, List, [], ◌∷◌, ◌++◌, false}
use Rattle.atomic_table.specs.Seated.{TableId}
use Rattle.accept.specs.declared.history.Ask.{Ask}
use Rattle.history.specs.Plays.{IsRested}
use Rattle.history.specs.Handles.{Announced, Booked, Passed, asks_of}
use Rattle.shard.specs.declared.first_jobs.Job.{Job}
use Rattle.shard.specs.declared.group.Settled.{Settled}
use Rattle.shard.specs.declared.group.Settled.TheVariants.{Answered, GivenBack}
use Rattle.shard.specs.Jobs.{tickets_of}
use Rattle.shard.specs.Turns.{AreReady}

-- the calls that are settled
abbrev pub asks_settled : List Settled → List Ask
asks_settled [] = []
asks_settled (Answered reply receipt ∷ ss) = receipt.step.ask ∷ asks_settled ss
asks_settled (GivenBack fault t ∷ ss) = t.ask ∷ asks_settled ss

-- the ticket is of pass p of the table, and in no doubt
abbrev pub IsOwn : TableId → ℕ → Announced → Type 0
IsOwn table p t = (t.table ≡ table) × (t.ask.pass ≡ p) × (t.doubted ≡ false)

abbrev pub AreOwn : TableId → ℕ → List Announced → Type 0
AreOwn table p [] = Unit {0}
AreOwn table p (t ∷ ts) = IsOwn table p t × AreOwn table p ts

-- the settled calls are of pass p of the table
abbrev pub AreSettled : TableId → ℕ → List Settled → Type 0
AreSettled table p [] = Unit {0}
AreSettled table p (Answered reply receipt ∷ ss) =
    ((receipt.table ≡ table) × (receipt.step.ask.pass ≡ p))
    × AreSettled table p ss
AreSettled table p (GivenBack fault t ∷ ss) = IsOwn table p t × AreSettled table p ss

-- The open calls of the pass are those that are settled and then the jobs, which may be made.
pub record IsOpenRound (table : TableId) (book : Booked) (pass : Passed) (jobs : List Job)
    (settled : List Settled) : Type 0 where
  pub book_table : book.table ≡ table
  pub pass_table : pass.table ≡ table
  pub one : book.about.shards ≡ 1
  pub only : book.shard ≡ 0
  pub pass_one : pass.caller.about.shards ≡ 1
  pub pending : pass.caller.pending ≡ asks_settled settled ++ asks_of (tickets_of jobs)
  pub rested : (pass.caller.pending ≡ []) ⊎ IsRested pass.caller
  pub own : AreOwn table pass.caller.pass (tickets_of jobs)
  pub settled_own : AreSettled table pass.caller.pass settled
  pub ready : AreReady book jobs
