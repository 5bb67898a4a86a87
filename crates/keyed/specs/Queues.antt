-- What contracts see of the ends of queues.
use Rattle.std.specs.Prelude.{List}
use Rattle.crossbeam_channel.specs.Claims.{view}
use Rattle.keyed.specs.declared.binding.Binding.{Binding}
use Rattle.keyed.specs.declared.ends.QueueSender.{QueueSender}
use Rattle.keyed.specs.declared.ends.QueueReceiver.{QueueReceiver}

module _ {T K P : Type 0} where
  -- what the messages fit that are sent here
  abbrev pub sends_to : QueueSender T K P → Binding K
  sends_to o = (view o.port).binding

  -- what the messages fit that come here
  abbrev pub receives_as : QueueReceiver T K P → Binding K
  receives_as i = (view i.port).binding

  -- the messages that were received here, the last first
  abbrev pub received_by : QueueReceiver T K P → List T
  received_by i = (view i.port).received.messages
