-- What goes through the queues. None of it names a disk or a clock.
use Rattle.std.specs.Prelude.{◌≡◌, ℕ, ◌≤◌, []}
use Rattle.std.specs.VecDeque.{deque_len}
use Rattle.history.specs.Histories.{max_open}
use Rattle.owners.specs.declared.messages.ShardMessage.{ShardMessage}
use Rattle.owners.specs.declared.messages.Order.{Order}
use Rattle.owners.specs.declared.messages.Order.TheVariants.{Make, End}
use Rattle.owners.specs.Homes.{Homed}
use Rattle.owners.specs.Calls.{IsBatch, AreDue}

module _ (home : Homed) where
  -- calls of a pass for shard k, in the order of their announcement
  pub record IsMessageTo (k : ℕ) (message : ShardMessage) : Type 0 where
    pub batch : IsBatch home.table home.about k message.pass message.jobs.items
    pub few : deque_len message.jobs ≤ max_open
    pub settled : message.settled.items ≡ []

  -- an order for the owner of shard k
  abbrev pub IsOrderFor : ℕ → Order → Type 0
  IsOrderFor k (Make message) = IsMessageTo k message
  IsOrderFor k (End last) = Unit {0}

  -- what became of calls of pass p
  pub record IsAnswerTo (p : ℕ) (message : ShardMessage) : Type 0 where
    pub pass : message.pass ≡ p
    pub jobs : message.jobs.items ≡ []
    pub settled : AreDue home p message.settled.items
