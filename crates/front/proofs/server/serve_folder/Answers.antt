use Rattle.std.proofs.Common.{ℕ, subst, arith}
use denote.Param.Send.{sendable}
use Rattle.disk.proofs.file.FileDisk.TheSendSync as file_disk
use Rattle.programs.proofs.watched.Watched.TheSendSync as watched
use Rattle.openings.specs.Findings.{AreOpenedFrom}
use Rattle.programs.specs.Slots.{slot_sight, SlotFollows}
use Rattle.front.proofs.server.serve_folder.Goals as goal

pub open_shards-requires-send-D : goal.open_shards-requires-send-D
open_shards-requires-send-D g c κs within = search (watched.the_send, file_disk.the_send, sendable) depth 20

pub serve_port-passes-requires-clause-over : goal.serve_port-passes-requires-clause-over
serve_port-passes-requires-clause-over g c κs within =
    let slots = c.in-Ok.slots in
    let opening = c.in_ok-ingester.ingester in
    let count = c.in-Ok.ensures.count in
    record {
      slots = slots.items;
      untouched = c.in-Ok.ensures.untouched;
      count = let e = c.in-Ok.slots.ok.0 in omega (arith, e, count);
      logs = opening.logs;
      found = subst (λ (n : ℕ). AreOpenedFrom slot_sight SlotFollows n c.args.asked.now.capacity 0 slots.items opening.logs opening.about.bases) count c.in_ok-ingester.ensures.found;
    }
