-- What an owner has may go to its thread, where its disks may; and threads share the routes of passes and the ends by
-- which shards come back.
use denote.RattleType.{RattleType}
use denote.Param.Send.{IsSend, AllSend, recorded_send, struct_send, view_send, sendable}
use denote.Struct.Declared as declared
use denote.Struct.Struct.{Struct}
use denote.Struct.Tuple.{TupleAt, type_at}
use mir.Syntax.{Sym}
use mathlib.Core.List.{[], ◌∷◌}
use Rattle.std.proofs.Crossing.{crosses, send, sync, frees}
use Rattle.crossbeam_channel.proofs.channel.Receiver.TheSendSync as receiver
use Rattle.disk.specs.declared.device.Disk as disk
use Rattle.keyed.proofs.ends.QueueReceiver.TheSendSync as queue_receiver
use Rattle.keyed.proofs.ends.QueueSender.TheSendSync as queue_sender
use Rattle.shard.proofs.Sent.{shard_send}
use Rattle.owners.proofs.mailbox.Mailbox.TheSendSync as mailbox
use Rattle.owners.proofs.messages.ShardMessage.TheSendSync as message
use Rattle.owners.proofs.messages.Order.TheSendSync as order
use Rattle.owners.specs.contracts.owning.OwnerEnds as ends
use Rattle.owners.specs.contracts.owning.OwnerThread as owner
use Rattle.owners.specs.contracts.owning.OwnerThread.TheInside as inside
use Rattle.owners.specs.contracts.team.Start as start

ends_fields : (D : RattleType) (g : disk.Ghosts D.Denot) → IsSend D → AllSend (declared.fields (ends.the_type D g))
ends_fields D g s = let one = shard_send D g s in (
  search sendable depth 20,
  (
    search (sendable, crosses, order.the_send, queue_receiver.the_field_send) depth 40,
    (
      search (sendable, crosses, message.the_send, queue_sender.the_field_send) depth 40,
      (
        search (sendable, crosses, one, queue_sender.the_field_send) depth 40,
        (mailbox.the_field_send, tt),
      ),
    ),
  ),
)

inside_fields : (D : RattleType) (g : disk.Ghosts D.Denot) → IsSend D → AllSend (declared.fields (inside.the_type D g))
inside_fields D g s = let one = shard_send D g s in (
  search (crosses, sendable) depth 20,
  (
    search sendable depth 20,
    (
      search (one, sendable) depth 20,
      (struct_send (declared.shape (ends.the_type D g)) (ends_fields D g s), tt),
    ),
  ),
)

inside_send : (D : RattleType) (g : disk.Ghosts D.Denot) → IsSend D → IsSend (inside.the_row D g)
inside_send D g s = let I = inside.the_type D g in recorded_send (Struct (declared.shape I)) I.D I.to I.to_one (struct_send (declared.shape I) (inside_fields D g s))

pub owner_send : (D : RattleType) (g : disk.Ghosts D.Denot) → IsSend D → IsSend (owner.the_row D g)
owner_send D g s = view_send (inside.the_row D g) _ _ _ _ (inside_send D g s)

start_fields : (D R : RattleType) (g : disk.Ghosts D.Denot) → IsSend D → IsSend R → AllSend (declared.fields (start.the_type D R g))
start_fields D R g s r = let o = owner_send D g s in (r, (receiver.the_send _ _ _ o send sync frees, tt))

pub start_send : (D R : RattleType) (g : disk.Ghosts D.Denot) → IsSend D → IsSend R → IsSend (start.the_row D R g)
start_send D R g s r = let T = start.the_type D R g in
    recorded_send (Struct (declared.shape T)) T.D T.to T.to_one (struct_send (declared.shape T) (start_fields D R g s r))

-- a closure that captures one value
pub closure_send : (ν : Sym) (R : RattleType) → IsSend R → IsSend (TupleAt ν (R ∷ []))
closure_send ν R s = let T = type_at ν (R ∷ []) in recorded_send (Struct (declared.shape T)) T.D T.to T.to_one (struct_send (declared.shape T) (s, tt))
