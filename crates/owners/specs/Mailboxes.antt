-- What an owner works with.
use Rattle.std.specs.Prelude.{◌≡◌, ℕ, ◌+◌, ◌≤◌, List, [], IfSome, Option, vec_capacity}
use Rattle.std.specs.VecDeque.{deque_capacity}
use Rattle.history.specs.Histories.{max_open}
use Rattle.shard.specs.Jobs.{max_turn, tickets_of, AreInPassTurn}
use Rattle.owners.specs.declared.messages.ShardMessage.{ShardMessage}
use Rattle.owners.specs.declared.mailbox.Mailbox.{Mailbox}
use Rattle.owners.specs.Homes.{Homed}
use Rattle.owners.specs.Calls.{AreWaiting}
use Rattle.owners.specs.Messages.{IsAnswerTo}
use Rattle.owners.specs.Lists.{AreEach}

-- the most calls of a mailbox: those of one message, and of all that came before it
abbrev pub max_mailbox : ℕ
max_mailbox = max_turn + max_open

module _ (home : Homed) where
  -- the message of pass p, if any
  abbrev pub IsPlace : ℕ → Option ShardMessage → Type 0
  IsPlace p place = IfSome place (IsAnswerTo home p)

  -- at each place lies that of the pass of its number
  abbrev pub ArePlaces : List (Option ShardMessage) → Type 0
  ArePlaces = AreEach IsPlace 0

  -- calls of shard k, each after those that it names, and the messages of their passes
  pub record IsMailbox (k : ℕ) (mailbox : Mailbox) : Type 0 where
    pub waiting : AreWaiting home.table home.about k mailbox.jobs.items
    pub turn : AreInPassTurn [] [] (tickets_of mailbox.jobs.items)
    pub settled : mailbox.settled.items ≡ []
    pub messages : ArePlaces mailbox.messages.items
    pub room : max_mailbox ≤ deque_capacity mailbox.jobs
    pub room_settled : max_mailbox ≤ vec_capacity mailbox.settled
