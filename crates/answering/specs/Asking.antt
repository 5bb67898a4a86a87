-- What the body of a request asks for, stream by stream.
use Rattle.std.specs.Prelude.{◌≡◌, ℕ, List, [], ◌∷◌, map, Result, Ok, Err, None, Vec}
use Rattle.std.specs.declared.alloc.Global.{Global}
use Rattle.pairs.specs.Labels.{Label}
use Rattle.labels.specs.Canonical.{IsTextOf}
use Rattle.labels.specs.Faults.{first_fault}
use Rattle.labels.specs.declared.key.StreamKey.{StreamKey}
use Rattle.accept.specs.Calls.{AreNumbers}
use Rattle.accept.specs.declared.call.Call.{Call}
use Rattle.accept.specs.declared.call.Call.TheVariants as calls
use Rattle.pushjson.specs.Reads.{ReadsPush}
use Rattle.pushjson.specs.Queries.{ReadsQuery, ReadsTrim}
use Rattle.pushjson.specs.declared.push.RawBatch.{RawBatch}
use Rattle.pushjson.specs.declared.query.RawRead.{RawRead}
use Rattle.pushjson.specs.declared.query.RawTrim.{RawTrim}
use Rattle.pushjson.specs.declared.fault.PushFault.{PushFault}
use Rattle.requests.specs.declared.route.Route.{Route}
use Rattle.requests.specs.declared.route.Route.TheVariants.{Push, Read, Trim}

-- a stream by its labels, not yet tested, and the call that is asked for on its key
pub record Asked : Type 0 where
  pub pairs : List Label
  pub call_on : StreamKey → Call

abbrev pub asked_push : ℕ → RawBatch → Asked
asked_push now b = record { pairs = b.pairs; call_on = λ key. calls.Push key now b.entries }

abbrev pub asked_read : RawRead → Asked
asked_read r = record { pairs = r.pairs; call_on = λ key. calls.Read key r.from r.to }

abbrev pub asked_trim : RawTrim → Asked
asked_trim t = record { pairs = t.pairs; call_on = λ key. calls.Trim key t.bound }

abbrev pub pushes_of : ℕ → Result (Vec RawBatch Global) PushFault → Result (List Asked) PushFault
pushes_of now (Ok batches) = Ok (map (asked_push now) batches.items)
pushes_of now (Err fault) = Err fault

abbrev pub reads_of : Result RawRead PushFault → Result (List Asked) PushFault
reads_of (Ok r) = Ok (asked_read r ∷ [])
reads_of (Err fault) = Err fault

abbrev pub trims_of : Result RawTrim PushFault → Result (List Asked) PushFault
trims_of (Ok t) = Ok (asked_trim t ∷ [])
trims_of (Err fault) = Err fault

-- what a body asks for at a route, stream by stream in its order, or why it is refused
abbrev pub AsksFor : Route → ℕ → List ℕ → Result (List Asked) PushFault → Type 0
AsksFor Push now body asked = (read : Result (Vec RawBatch Global) PushFault) × ReadsPush body read
    × (asked ≡ pushes_of now read)
AsksFor Read now body asked = (read : Result RawRead PushFault) × ReadsQuery body read
    × (asked ≡ reads_of read)
AsksFor Trim now body asked = (read : Result RawTrim PushFault) × ReadsTrim body read
    × (asked ≡ trims_of read)

-- the call of a stream, whose labels are lawful
pub record IsCallOf (tenant : List ℕ) (asked : Asked) (call : Call) : Type 0 where
  pub labels : List ℕ
  pub lawful : first_fault asked.pairs ≡ None
  pub text : IsTextOf labels asked.pairs
  pub is : call ≡ asked.call_on (record { tenant = tenant; labels = labels })

-- its call may be made on each key
abbrev pub HasNumbers : Asked → Type 0
HasNumbers asked = (key : StreamKey) → AreNumbers (asked.call_on key)
