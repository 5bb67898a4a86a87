use Rattle.std.proofs.Common.{◌≡◌, ◌≤◌, ◌++◌, ℕ, List}
use Rattle.std.specs.VecDeque.{deque_len}
use Rattle.keyed.specs.Queues.{receives_as, received_by}
use Rattle.keyed.specs.declared.binding.Binding.TheVariants.{Bound}
use Rattle.owners.specs.declared.messages.Order.{Order}
use Rattle.owners.specs.Taken.{AreTakenIn}
use Rattle.owners.specs.Homes.{Homed}
use Rattle.owners.specs.Mailboxes.{max_mailbox, IsMailbox}
use Rattle.owners.proofs.taking.take_group.Given as goal

abbrev pub invariant-loop : goal.invariant-loop
invariant-loop g l = record {
  same : receives_as l.orders ≡ receives_as l.fn.orders;
  mailbox : (home : Homed) (k : ℕ) → receives_as l.fn.orders ≡ Bound home k → IsMailbox home k l.fn.mailbox → IsMailbox home k l.mailbox;
  few : deque_len l.mailbox.jobs ≤ max_mailbox;
  taken : (came : List Order) × (received_by l.orders ≡ came ++ received_by l.fn.orders) × AreTakenIn came l.fn.mailbox l.mailbox l.ending;
}
