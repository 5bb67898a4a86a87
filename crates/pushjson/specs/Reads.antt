-- What a push body is read as, and when it is refused.
use Rattle.std.specs.Prelude.{◌≡◌, ◌≢◌, ⊤, ℕ, ◌<◌, ◌≤◌, List, map, Result, Ok, Err, Vec}
use Rattle.std.specs.declared.alloc.Global.{Global}
use Rattle.serde_json.specs.Data.{Data}
use Rattle.entries.specs.declared.entry.Entry.{Entry}
use Rattle.accept.specs.Calls.{max_entries}
use Rattle.pushjson.specs.Bodies.{Stream, TimedLine, body_tree, IsJson, AreTimed, HaveTimes, IsFirstBad, IsFirstBadTime, entry_count, entry_of_line, batch_of}
use Rattle.pushjson.specs.Parts.{OfOthers}
use Rattle.pushjson.specs.declared.push.RawBatch.{RawBatch}
use Rattle.pushjson.specs.declared.fault.PushFault.{PushFault}
use Rattle.pushjson.specs.declared.fault.PushFault.TheVariants.{NotJson, WrongShape, BadTime, TooManyEntries, TooManyParts, Memory}

-- the answer to a push body of these bytes, by its tree
abbrev pub IsPushOfTree : List ℕ → Result (List RawBatch) PushFault → Type 0
IsPushOfTree bytes (Ok batches) =
    (streams : List Stream) × IsJson bytes (body_tree streams) × HaveTimes streams
    × (entry_count streams ≤ max_entries)
    × (batches ≡ map batch_of streams)
IsPushOfTree bytes (Err NotJson) = (d : Data) → ¬ IsJson bytes d
IsPushOfTree bytes (Err WrongShape) = (d : Data) × IsJson bytes d × ((streams : List Stream) → d ≢ body_tree streams)
IsPushOfTree bytes (Err (BadTime i j)) = (streams : List Stream) × IsJson bytes (body_tree streams)
    × IsFirstBadTime streams i j
IsPushOfTree bytes (Err TooManyEntries) = (streams : List Stream) × IsJson bytes (body_tree streams)
    × HaveTimes streams × (max_entries < entry_count streams)
IsPushOfTree bytes (Err TooManyParts) = ⊥
IsPushOfTree bytes (Err Memory) = ⊤

-- the answer to a push body of these bytes
abbrev pub IsPushAnswer : List ℕ → Result (List RawBatch) PushFault → Type 0
IsPushAnswer bytes = OfOthers bytes (IsPushOfTree bytes)

-- an answer, without where its batches lie in memory
abbrev pub batches_answered : Result (Vec RawBatch Global) PushFault → Result (List RawBatch) PushFault
batches_answered (Ok batches) = Ok batches.items
batches_answered (Err fault) = Err fault

abbrev pub ReadsPush : List ℕ → Result (Vec RawBatch Global) PushFault → Type 0
ReadsPush bytes read = IsPushAnswer bytes (batches_answered read)

-- while memory lasts, there is one answer, and one alone: its kind, its place and its value
abbrev pub HasOne : {X : Type 0} → (Result X PushFault → Type 0) → Type 0
HasOne {X} Answers =
    (r : Result X PushFault) × (r ≢ Err Memory) × Answers r
    × ((s : Result X PushFault) → Answers s → s ≢ Err Memory → s ≡ r)

-- for private clauses: the entries of the stream at i, which has these values
abbrev pub GivesEntries : ℕ → List TimedLine → Result (Vec Entry Global) PushFault → Type 0
GivesEntries i values (Ok entries) = AreTimed values × (entries.items ≡ map entry_of_line values)
GivesEntries i values (Err (BadTime k j)) = (k ≡ i) × IsFirstBad values j
GivesEntries i values (Err Memory) = ⊤
GivesEntries i values (Err fault) = ⊥

-- for private clauses: the batches of these streams, whatever their number
abbrev pub GivesBatches : List Stream → Result (Vec RawBatch Global) PushFault → Type 0
GivesBatches streams (Ok batches) = HaveTimes streams × (batches.items ≡ map batch_of streams)
GivesBatches streams (Err (BadTime i j)) = IsFirstBadTime streams i j
GivesBatches streams (Err Memory) = ⊤
GivesBatches streams (Err fault) = ⊥
