-- The two ends of a connection, and which of them failed.
use Rattle.std.specs.Prelude.{◌≡◌, ◌⊎◌, ℕ, Bool, true, List, [], Option, None, Some, Result, Ok, Err}
use Rattle.std.specs.Io.KnownBytes.{IsAtEnd}
use Rattle.requests.specs.Streams.{IsCut}
use Rattle.requests.specs.declared.fault.ServeFault.{ServeFault}
use Rattle.requests.specs.declared.fault.ServeFault.TheVariants.{Read, Write, CutShort}
use Rattle.requests.specs.declared.fault.Served.{Served}
use Rattle.requests.specs.declared.fault.Served.TheVariants.{Ended, Closed}
use Rattle.answering.specs.Connections.{Unended}
use Rattle.answering.specs.declared.ends.Ends.{Ends}

module _ {I O : Type 0} where
  -- they are of the same reader and writer, which may have changed
  pub record AreSameEnds (old new : Ends I O) : Type 0 where
    pub reader : new.reader.ghost_name ≡ old.reader.ghost_name
    pub writer : new.writer.ghost_name ≡ old.writer.ghost_name

-- the fault is of an end that failed when it was asked last, the reader or the writer, or of none of them
abbrev pub IsOfOneEnd : Bool → Bool → ServeFault → Type 0
IsOfOneEnd reads writes Read = reads ≡ true
IsOfOneEnd reads writes Write = writes ≡ true
IsOfOneEnd reads writes fault = Unit {0}

-- for private clauses: but for what came and how much may, it is the same
abbrev pub IsSameBut : Unended → Unended → Type 0
IsSameBut old new = (new.text ≡ old.text) × (new.closes ≡ old.closes) × (new.unanswered ≡ old.unanswered)

-- for private clauses: more was read, or the stream ended, or reading failed; these bytes have come, and are no whole
-- request unless more was read
abbrev pub IsReadOn : List ℕ → Option (List ℕ) → Result (Option Served) ServeFault → Type 0
IsReadOn bytes left (Ok None) = Unit {0}
IsReadOn bytes left (Ok (Some Ended)) = (bytes ≡ []) × IsAtEnd left
IsReadOn bytes left (Ok (Some Closed)) = ⊥
IsReadOn bytes left (Err CutShort) = IsCut bytes × IsAtEnd left
IsReadOn bytes left (Err Write) = ⊥
IsReadOn bytes left (Err fault) = (bytes ≡ []) ⊎ IsCut bytes
