-- What the test of several open calls keeps.
use Rattle.std.specs.Prelude.{◌≡◌, ◌⊎◌, ◌≤◌, ◌==◌, if◌then◌else◌, ℕ, List, [], ◌∷◌, true, length}
use Rattle.atomic_table.specs.Seated.{TableId}
use Rattle.accept.specs.declared.call.Call.{Call}
use Rattle.accept.specs.declared.history.Ask.{Ask}
use Rattle.accept.specs.declared.history.Step.{Step}
use Rattle.accept.specs.declared.history.Item.TheVariants.{Answered}
use Rattle.accept.specs.Histories.{is_marked}
use Rattle.history.specs.declared.views.About.{About}
use Rattle.history.specs.Histories.{HaveSteps, asks_on, shard_in, max_open}
use Rattle.history.specs.Plays.{IsRested}
use Rattle.history.specs.Handles.{Announced, Booked, Passed, Received, longer}

-- the calls of these answers
abbrev pub asks_received : List Received → List Ask
asks_received [] = []
asks_received (r ∷ rs) = r.step.ask ∷ asks_received rs

-- the answers are to this pass
abbrev pub AreTo : TableId → ℕ → List Received → Type 0
AreTo table p [] = Unit {0}
AreTo table p (r ∷ rs) = (r.table ≡ table) × (r.step.ask.pass ≡ p) × AreTo table p rs

-- a pass of the opening, and the answers to its open calls, in their order
pub record IsWindow (table : TableId) (about : About) (pass : Passed)
    (answers : List Received) : Type 0 where
  pub table_is : pass.table ≡ table
  pub about_is : pass.caller.about ≡ about
  pub answers_are : asks_received answers ≡ pass.caller.pending
  pub theirs : AreTo table pass.caller.pass answers
  pub rested : (pass.caller.pending ≡ []) ⊎ IsRested pass.caller

-- a book of the opening, with a failure mark
pub record IsMarkedBook (table : TableId) (about : About) (book : Booked) : Type 0 where
  pub table_is : book.table ≡ table
  pub about_is : book.about ≡ about
  pub marked : is_marked book.items ≡ true

-- the books of an opening of two shards, each with a failure mark
pub record AreBooks (table : TableId) (about : About) (zero one : Booked) : Type 0 where
  pub two : about.shards ≡ 2
  pub zero_is : IsMarkedBook table about zero
  pub zero_at : zero.shard ≡ 0
  pub one_is : IsMarkedBook table about one
  pub one_at : one.shard ≡ 1

-- the books of an opening of two shards, and two of its passes, with no open call
pub record IsOpeningOfTwo (table : TableId) (about : About) (zero one : Booked)
    (first second : Passed) : Type 0 where
  pub books_are : AreBooks table about zero one
  pub first_is : IsWindow table about first []
  pub second_is : IsWindow table about second []

-- a thread has this opening's table, at most 64 calls, and a pass with no open call
abbrev pub IsThreadReady : TableId → About → TableId → List Call → Passed → Type 0
IsThreadReady table about history calls pass = (history ≡ table) × (length calls ≤ max_open)
    × IsWindow table about pass []

-- the open calls of a pass have steps in the book of their shard
abbrev pub HaveAll : About → List Ask → Booked → Booked → Type 0
HaveAll about pending zero one = HaveSteps (asks_on about 0 pending) zero.items
    × HaveSteps (asks_on about 1 pending) one.items

-- where the call is shard k's, the calls in front of it have steps in its book
abbrev pub MayFollowIn : About → ℕ → Announced → Booked → Type 0
MayFollowIn about k ticket book = k ≡ shard_in about ticket.ask → HaveSteps ticket.before book.items

-- the book of shard k, with this step if it is the shard's
abbrev pub with_step_of_shard : About → ℕ → Booked → Step → Booked
with_step_of_shard about k book s =
    if k == shard_in about s.ask then longer book (Answered s) else book
