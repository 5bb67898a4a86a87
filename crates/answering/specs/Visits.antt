-- What a visit of a connection says: some of the requests that have come are answered and it is kept, or it ends.
use Rattle.std.specs.Prelude.{◌≢◌, ℕ, List, [], Option, None, Result, Ok, Err}
use Rattle.std.specs.List.{flat_map}
use Rattle.std.specs.Io.KnownBytes.{Appends}
use Rattle.requests.specs.declared.fault.ServeFault.{ServeFault}
use Rattle.requests.specs.declared.fault.ServeFault.TheVariants as faults
use Rattle.requests.specs.declared.fault.Served.{Served}
use Rattle.requests.specs.declared.fault.Served.TheVariants as served
use Rattle.answering.specs.Calls.{Giving}
use Rattle.answering.specs.Serving.{Exchange, World, response, IsUnbegun, ConnectionGives, ConnectionIsAnswered}
use Rattle.answering.specs.declared.visiting.Visited.{Visited}
use Rattle.answering.specs.declared.visiting.Visited.TheVariants as visited

module _ {H C : Type 0} (gives : Giving H) (ticks : C → ℕ → C → Type 0) where
  -- of these bytes some requests were answered, none of which closes, and this is left
  pub record KeepsOn (before after : Option (List ℕ)) (bytes : List ℕ) (w : World H C) (rest : List ℕ) (w' : World H C)
      : Type 0 where
    pub exchanges : List Exchange
    pub appends : Appends before after (flat_map response exchanges)
    pub serves : ConnectionGives gives ticks bytes w exchanges rest w'

  -- the connection of these bytes was served to its end
  pub record IsOver (before after : Option (List ℕ)) (bytes : List ℕ) (left : Option (List ℕ))
      (w w' : World H C) (result : Result Served ServeFault) : Type 0 where
    pub text : List ℕ
    pub appends : Appends before after text
    pub served : ConnectionIsAnswered gives ticks bytes left w text w' result

  -- A visit in which these bytes were there, and nothing was read. There may be more where it answered some requests,
  -- and else no whole one is left.
  abbrev pub IsVisit : Option (List ℕ) → Option (List ℕ) → List ℕ → World H C
      → List ℕ → World H C
      → Result Visited ServeFault → Type 0
  IsVisit before after bytes w rest w' (Ok visited.More) =
      (kept : KeepsOn before after bytes w rest w') × (kept.exchanges ≢ [])
  IsVisit before after bytes w rest w' (Ok (visited.Unfinished n)) =
      KeepsOn before after bytes w rest w' × IsUnbegun rest
  IsVisit before after bytes w rest w' (Ok visited.Closed) =
      IsOver before after bytes None w w' (Ok served.Closed)
  IsVisit before after bytes w rest w' (Err faults.Read) = ⊥
  IsVisit before after bytes w rest w' (Err faults.CutShort) = ⊥
  IsVisit before after bytes w rest w' (Err fault) =
      IsOver before after bytes None w w' (Err fault)
