-- How the server ends.
use Rattle.std.specs.Prelude.{◌≡◌, ◌⊎◌, ℕ, ◌-◌, ◌^◌, List, ◌++◌, codes, decimal, Option, Some, None, String, option_map, string_bytes}
use Rattle.std.specs.Io.KnownBytes.{Appends}
use Rattle.std.specs.declared.alloc.Global.{Global}
use Rattle.workers.specs.declared.accepting.AcceptEnd.{AcceptEnd}
use Rattle.workers.specs.Workers.{IsServedFor}
use Rattle.programs.specs.declared.said.ServerWords.{ServerWords}
use Rattle.programs.specs.Words.{SaysServer, capacity_of}
use Rattle.programs.specs.Environments.{limits_of}
use Rattle.programs.specs.declared.environment.Environment.{Environment}
use Rattle.accept.specs.declared.limits.Limits.{Limits}
use Rattle.history.specs.Handles.{Passed}
use Rattle.front.specs.declared.program_fault.ProgramFault.{ProgramFault}
use Rattle.front.specs.declared.program_fault.ProgramFault.TheVariants.{Serving, Output}
use Rattle.front.specs.Stops.{stop_status}
use Rattle.front.specs.ServedPasses.{HasServed}

-- what a server says that listens on a port
abbrev pub ready_line : ℕ → List ℕ
ready_line port = codes "ready " ++ decimal port ++ codes "\n"

-- It said that it is ready, on the port that it was asked for, and where that was 0 on any.
abbrev pub HasSaidReady : ℕ → Option (List ℕ) → Option (List ℕ) → Type 0
HasSaidReady asked before after = (port : ℕ) × ((port ≡ asked) ⊎ (asked ≡ 0))
    × Appends before after (ready_line port)

-- What it said until this stopped it: that it is ready, where it was serving. Where it could not write, that is not
-- known. Else nothing.
abbrev pub HasSaidUntil : ℕ → Option (List ℕ) → Option (List ℕ) → ProgramFault → Type 0
HasSaidUntil asked before after (Serving fault) = HasSaidReady asked before after
HasSaidUntil asked before after Output = Unit {0}
HasSaidUntil asked before after stop = after ≡ before

-- why a server ends that is not stopped: as many connections came as its words say, or no worker is left
abbrev pub ServesUntil : Option ℕ → AcceptEnd → Type 0
ServesUntil (Some connections) served = IsServedFor connections served
ServesUntil None served = IsServedFor (2 ^ 64 - 1) served

-- it served by an opening as its words and the environment ask for it
abbrev pub HasServedAsAsked : {C : Type 0} → (C → ℕ → C → Type 0) → Environment → ServerWords → Type 0
HasServedAsAsked ticks environment server = (limits : Limits) × (limits_of environment ≡ Some limits)
    × ((left : List Passed) × HasServed ticks limits server.shards server.workers
    (capacity_of (option_map string_bytes environment.capacity)) left)

-- How the server ended, by what its output held before and after: its words or its settings were wrong; or it said that
-- it is ready on the port of the words, and served by an opening as words and settings ask for it; or it stopped.
pub data ServerEnds {C : Type 0} (ticks : C → ℕ → C → Type 0) (words : List (String Global))
    (environment : Environment) (before after : Option (List ℕ)) (status : ℕ) : Type 0 where
  unasked_server : status ≡ 2 → after ≡ before → ServerEnds ticks words environment before after status
  ended_server : (server : ServerWords) → SaysServer words server
      → HasSaidReady server.port before after → (served : AcceptEnd)
      → ServesUntil server.connections served
      → HasServedAsAsked ticks environment server → status ≡ 0
      → ServerEnds ticks words environment before after status
  stopped_server : (server : ServerWords) → SaysServer words server → (stop : ProgramFault)
      → HasSaidUntil server.port before after stop → status ≡ stop_status stop
      → ServerEnds ticks words environment before after status
