-- What becomes of the orders that an owner takes from its queue.
use Rattle.std.specs.Prelude.{◌≡◌, ◌⊎◌, List, [], ◌∷◌, ◌++◌, Option, Some, None, slice_set}
use Rattle.keyed.specs.declared.ends.Gone.{Gone}
use Rattle.owners.specs.declared.messages.ShardMessage.{ShardMessage}
use Rattle.owners.specs.declared.messages.Order.{Order}
use Rattle.owners.specs.declared.messages.Order.TheVariants.{Make, End}
use Rattle.owners.specs.declared.messages.ExitReason.{ExitReason}
use Rattle.owners.specs.declared.messages.ExitReason.TheVariants.{Ordered, Alone}
use Rattle.owners.specs.declared.mailbox.Mailbox.{Mailbox}

-- The calls of the message stand after those that were there, and the message lies at the place of its pass.
pub record IsPutInMailbox (message : ShardMessage) (old new : Mailbox) : Type 0 where
  pub jobs : new.jobs.items ≡ old.jobs.items ++ message.jobs.items
  pub emptied : ShardMessage
  pub pass : emptied.pass ≡ message.pass
  pub place : new.messages.items ≡ slice_set old.messages.items message.pass (Some emptied)

-- The message of the order is in the mailbox. The last order is why the owner ends.
abbrev pub IsTakenIn : Order → Mailbox → Mailbox → Option ExitReason → Type 0
IsTakenIn (Make message) old new ending = IsPutInMailbox message old new × (ending ≡ None)
IsTakenIn (End last) old new ending = (new ≡ old) × (ending ≡ Some (Ordered last))

-- so it is with each of these orders, of which the last is first
abbrev pub AreTakenIn : List Order → Mailbox → Mailbox → Option ExitReason → Type 0
AreTakenIn [] old new ending = (new ≡ old) × (ending ≡ None)
AreTakenIn (order ∷ earlier) old new ending = (mid : Mailbox) × AreTakenIn earlier old mid None
    × IsTakenIn order mid new ending

-- nobody can send orders any more, and nothing has changed
abbrev pub IsLeftAlone : List Order → Mailbox → Mailbox → Option ExitReason → Type 0
IsLeftAlone came old new ending = (came ≡ []) × (new ≡ old) × ((gone : Gone) × (ending ≡ Some (Alone gone)))

-- all orders that were taken from a queue, of which the last is first, by what was taken before and after
pub record IsTakenGroup (before after : List Order) (old new : Mailbox) (ending : Option ExitReason) : Type 0 where
  pub came : List Order
  pub received : after ≡ came ++ before
  pub taken : AreTakenIn came old new ending ⊎ IsLeftAlone came old new ending
