-- With which exit status programs stop.
use Rattle.std.specs.Prelude.{ℕ}
use Rattle.programs.specs.declared.slots.SlotsFault.{SlotsFault}
use Rattle.programs.specs.declared.slots.SlotsFault.TheVariants as slots
use Rattle.front.specs.declared.program_fault.ProgramFault.{ProgramFault}
use Rattle.front.specs.declared.program_fault.ProgramFault.TheVariants.{Body, Slots, Opening as Unopened, Listen, Serving, Call, Memory, Output}

-- slots that cannot be opened: 3 where the folder is no whole log of the number of shards, else 1
abbrev pub slots_status : SlotsFault → ℕ
slots_status (slots.Path path) = 1
slots_status (slots.Missing path) = 3
slots_status (slots.LeftOut path shards) = 3
slots_status slots.Memory = 1

-- what stops a program: 3 for a refused opening or a refused folder, else 1
abbrev pub stop_status : ProgramFault → ℕ
stop_status Body = 1
stop_status (Slots fault) = slots_status fault
stop_status (Unopened fault) = 3
stop_status Listen = 1
stop_status (Serving fault) = 1
stop_status (Call fault) = 1
stop_status Memory = 1
stop_status Output = 1
