-- What a slot in memory holds, and when it fails.
use Rattle.std.specs.Prelude.{◌≡◌, ◌≤◌, ◌<◌, ◌↔◌, ℕ, List, length}
use Rattle.disk.specs.Sight.{Holds, IsSynced}
use Rattle.memory_disk.specs.MemDisk.{WillFail, memory_sight}
use Rattle.memory_disk.specs.declared.memory.MemDisk.{MemDisk}
use Rattle.call_rows.specs.declared.slots.FailureMode.{FailureMode}
use Rattle.call_rows.specs.declared.slots.FailureMode.TheVariants.{Fails, Stops}

-- what a read gives
abbrev pub bytes_in : MemDisk → List ℕ
bytes_in slot = (memory_sight slot).seen

-- a write within the bytes that there were, and a sync: they hold these, and a crash leaves nothing else
abbrev pub IsWritten : ℕ → List ℕ → MemDisk → MemDisk → Type 0
IsWritten at bytes old new =
    (at ≤ length (bytes_in old) → Holds (bytes_in old) at bytes (bytes_in new))
    × IsSynced (memory_sight new)

-- the calls, counted from 1, that fail by what was planned for the one with this number; with 0 none
abbrev pub IsStruck : FailureMode → ℕ → ℕ → Type 0
IsStruck Fails call k = k ≡ call
IsStruck Stops call k = (0 < call) × (call ≤ k)

-- the slot fails at those of its next calls
abbrev pub FailsAsPlanned : FailureMode → ℕ → MemDisk → Type 0
FailsAsPlanned mode call slot = (k : ℕ) → 0 < k → (WillFail slot k ↔ IsStruck mode call k)
