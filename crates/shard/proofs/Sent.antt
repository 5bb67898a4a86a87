-- A shard goes to another thread where its disks do: what it remembers for contracts has no bytes.
use denote.RattleType.{RattleType}
use denote.Param.Send.{IsSend, AllSend, view_send, recorded_send, struct_send, sendable}
use denote.Struct.Declared as declared
use denote.Struct.Struct.{Struct}
use Rattle.std.proofs.Crossing.{crosses}
use Rattle.accept.proofs.limits.Limits.TheSendSync as limits
use Rattle.disk.specs.declared.device.Disk as disk
use Rattle.history.proofs.book.Book.TheSendSync as book
use Rattle.streams.proofs.map.StreamMap.TheSendSync as map
use Rattle.wal.proofs.log.Wal.TheSendSync as wal
use Rattle.shard.proofs.group.Group.TheSendSync as group
use Rattle.shard.specs.contracts.keeping.Log as log
use Rattle.shard.specs.contracts.parts.Parts as parts
use Rattle.shard.specs.contracts.shard.Shard.{the_row}
use Rattle.shard.specs.contracts.shard.Shard.TheInside as inside

log_send : (D : RattleType) → IsSend D → IsSend (log.the_row D)
log_send D s = let T = log.the_type D in
    recorded_send (Struct (declared.shape T)) T.D T.to T.to_one (struct_send (declared.shape T) (search (crosses, s, wal.the_field_send, sendable) depth 40, tt))

parts_send : (D : RattleType) → IsSend D → AllSend (declared.fields (parts.the_type D))
parts_send D s = (search (log_send D s, sendable) depth 40, (book.the_send, (map.the_send, (limits.the_field_send, (search sendable, (search (crosses, sendable) depth 40, (search (crosses, sendable) depth 40, tt)))))))

inside_send : (D : RattleType) (g : disk.Ghosts D.Denot) → IsSend D → IsSend (inside.the_row D g)
inside_send D g s = let I = inside.the_type D g in recorded_send (Struct (declared.shape I)) I.D I.to I.to_one
    (struct_send (declared.shape I) (struct_send (declared.shape (parts.the_type D)) (parts_send D s), (group.the_field_send, tt)))

pub shard_send : (D : RattleType) (g : disk.Ghosts D.Denot) → IsSend D → IsSend (the_row D g)
shard_send D g s = view_send (inside.the_row D g) _ _ _ _ (inside_send D g s)
