-- What ends of queues are bound to.
use Rattle.std.specs.Prelude.{◌≡◌, List}
use Rattle.keyed.specs.declared.ends.QueueSender.{QueueSender}
use Rattle.keyed.specs.declared.ends.QueueReceiver.{QueueReceiver}
use Rattle.keyed.specs.declared.binding.Binding.TheVariants.{Bound}
use Rattle.keyed.specs.Queues.{sends_to, receives_as}
use Rattle.owners.specs.Lists.{AreEach}

-- each end sends to the number of its place
abbrev pub AreBoundFrom : {T K P : Type 0} → K → List (QueueSender T K P) → Type 0
AreBoundFrom key = AreEach (λ n end. sends_to end ≡ Bound key n) 0

-- each end receives for the number of its place
abbrev pub ReceiveFrom : {T K P : Type 0} → K → List (QueueReceiver T K P) → Type 0
ReceiveFrom key = AreEach (λ n end. receives_as end ≡ Bound key n) 0
