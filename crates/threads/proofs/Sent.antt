-- Threads share an ingester over slots in memory behind a gate.
use denote.RattleType.{RattleType}
use denote.Param.Send.{IsSend, IsSync, AllSync, recorded_sync, struct_sync, shr_sync, sendable}
use denote.Ref.{NamedLft}
use denote.Struct.Declared as declared
use denote.Struct.Struct.{Struct}
use Rattle.std.proofs.Crossing.{crosses}
use Rattle.memory_disk.proofs.gate.Gate.TheSendSync as opened
use Rattle.memory_disk.proofs.gate.GateDisk.TheSendSync as gate
use Rattle.memory_disk.proofs.memory.MemDisk.TheSendSync as memory_moves
use Rattle.memory_disk.specs.contracts.gate.GateDisk as slot
use Rattle.memory_disk.specs.contracts.gate.GateDiskDisk.TheImpl as slot_disk
use Rattle.memory_disk.specs.contracts.memory.MemDisk as memory
use Rattle.memory_disk.specs.contracts.memory.MemDiskDisk.TheImpl as memory_disk
use Rattle.disk.specs.declared.device.Disk as disk
use Rattle.ingester.proofs.Sent.{ingester_sync}
use Rattle.ingester.specs.contracts.opened.Ingester as ingester
use Rattle.threads.specs.contracts.context.ThreadContext as context

abbrev slots : disk.Ghosts (slot.the_row memory.the_row).Denot
slots = slot_disk.ghosts memory.the_row memory_disk.ghosts slot_disk.no_dict

slot_send : IsSend (slot.the_row memory.the_row)
slot_send = search (gate.the_send, gate.the_field_send, memory_moves.the_send, crosses, sendable) depth 20

-- (with the ghosts left to be found, `search` compares what an ingester unfolds to)
context_fields : (κ : NamedLft) (R : RattleType) → IsSync R → AllSync (declared.fields (context.the_type κ R))
context_fields κ R r = (
  search (r, sendable),
  (
    search sendable,
    (
      shr_sync κ.mir κ.lft (ingester.the_row (slot.the_row memory.the_row) slots) (ingester_sync (slot.the_row memory.the_row) slots slot_send),
      (
        search (opened.the_sync, sendable) depth 20,
        (search (crosses, sendable) depth 20, (search sendable depth 30, (search sendable, tt))),
      ),
    ),
  ),
)

-- What the threads of a run share may be shared.
pub context_sync : (κ : NamedLft) (R : RattleType) → IsSync R → IsSync (context.the_row κ R)
context_sync κ R r = let T = context.the_type κ R in recorded_sync (Struct (declared.shape T)) T.D T.to T.to_one (struct_sync (declared.shape T) (context_fields κ R r))
