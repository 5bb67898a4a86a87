-- Threads share an ingester where its disks may go from thread to thread: what it remembers for contracts has no bytes.
use denote.RattleType.{RattleType}
use denote.Param.Send.{IsSend, IsSync, AllSync, view_sync, recorded_send, struct_send, recorded_sync, struct_sync, sendable}
use denote.Struct.Declared as declared
use denote.Struct.Struct.{Struct}
use Rattle.std.proofs.Crossing.{crosses, Vec-send}
use Rattle.disk.specs.declared.device.Disk as disk
use Rattle.history.proofs.history.History.TheSendSync as history
use Rattle.keyed.proofs.aside.Aside.TheSendSync as aside
use Rattle.keyed.proofs.ends.QueueReceiver.TheSendSync as queue_receiver
use Rattle.keyed.proofs.waiters.Waiters.TheSendSync as waiters
use Rattle.shard.proofs.Sent.{shard_send}
use Rattle.shard.specs.contracts.shard.Shard as shard
use Rattle.owners.specs.contracts.places.OfOpening as of_opening
use Rattle.owners.specs.contracts.places.OfOpeningFitsShardOpeningSnapshot.TheImpl as of_opening_fits
use Rattle.owners.specs.contracts.places.OpeningSnapshot as origin
use Rattle.owners.specs.contracts.plan.Closer as closer
use Rattle.owners.specs.contracts.plan.OfClosing as of_closing
use Rattle.owners.specs.contracts.plan.OfClosingFitsCloserOpeningSnapshot.TheImpl as of_closing_fits
use Rattle.ingester.specs.contracts.opened.Ingester.{the_row}
use Rattle.ingester.specs.contracts.opened.Ingester.TheInside as inside

closer_send : (D : RattleType) (g : disk.Ghosts D.Denot) → IsSend D → IsSend (closer.the_row D g)
closer_send D g s = let T = closer.the_type D g in
    let one = shard_send D g s in
    let backs = Vec-send _ (queue_receiver.the_send (shard.the_row D g) (origin.the_row D g) of_opening.the_row (of_opening_fits.ghosts D g of_opening_fits.no_dict) one) in
    recorded_send (Struct (declared.shape T)) T.D T.to T.to_one (struct_send (declared.shape T) (backs, (Vec-send (shard.the_row D g) one, tt)))

fields_sync : (D : RattleType) (g : disk.Ghosts D.Denot) → IsSend D → AllSync (declared.fields (inside.the_type D g))
fields_sync D g s = (
  search (history.the_sync, sendable),
  (
    aside.the_field_sync _ (origin.the_row D g) of_closing.the_row (of_closing_fits.ghosts D g of_closing_fits.no_dict of_closing_fits.no_dict) (closer_send D g s),
    (search (sendable, crosses) depth 30, (search (sendable, crosses, waiters.the_sync) depth 30, (search sendable, (search (sendable, crosses) depth 30, tt)))),
  ),
)

inside_sync : (D : RattleType) (g : disk.Ghosts D.Denot) → IsSend D → IsSync (inside.the_row D g)
inside_sync D g s = let I = inside.the_type D g in recorded_sync (Struct (declared.shape I)) I.D I.to I.to_one (struct_sync (declared.shape I) (fields_sync D g s))

pub ingester_sync : (D : RattleType) (g : disk.Ghosts D.Denot) → IsSend D → IsSync (the_row D g)
ingester_sync D g s = view_sync (inside.the_row D g) _ _ _ _ (inside_sync D g s)
