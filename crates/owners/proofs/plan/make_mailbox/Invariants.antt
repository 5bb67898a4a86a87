use Rattle.std.proofs.Common.{◌≡◌, ◌≤◌, length}
use Rattle.std.specs.Vec.{vec_capacity}
use Rattle.owners.specs.Homes.{Homed}
use Rattle.owners.specs.Mailboxes.{ArePlaces}
use Rattle.owners.proofs.plan.make_mailbox.Given as goal

abbrev pub invariant-loop : goal.invariant-loop
invariant-loop l = record {
  len : length l.messages.items ≡ l.counter;
  room : l.passes ≤ vec_capacity l.messages;
  places : (home : Homed) → ArePlaces home l.messages.items;
}
