-- What is out of a text that was to be written.
use Rattle.std.specs.Prelude.{◌≡◌, ℕ, ◌≤◌, List, length, take, Option, Result, Ok, Err}
use Rattle.std.specs.Io.KnownBytes.{Appends}
use Rattle.requests.specs.declared.fault.ServeFault.{ServeFault}
use Rattle.requests.specs.declared.fault.ServeFault.TheVariants.{Read, Write, Memory, CutShort}

-- how much of the text is out: all, or a beginning where writing failed, or nothing where memory ran out
abbrev pub IsOut : List ℕ → ℕ → Result (Unit {0}) ServeFault → Type 0
IsOut text n (Ok u) = n ≡ length text
IsOut text n (Err Write) = n ≤ length text
IsOut text n (Err Memory) = n ≡ 0
IsOut text n (Err Read) = ⊥
IsOut text n (Err CutShort) = ⊥

-- the writer holds a beginning of the text after what it held
abbrev pub WritesBeginning : Option (List ℕ) → Option (List ℕ) → List ℕ
    → Result (Unit {0}) ServeFault → Type 0
WritesBeginning old new text result = (n : ℕ) × Appends old new (take n text) × IsOut text n result
