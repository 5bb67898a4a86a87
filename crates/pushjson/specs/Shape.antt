-- What the readers of a tree's parts answer; for private clauses.
use Rattle.std.specs.Prelude.{◌≡◌, ◌≢◌, ⊤, ℕ, List, map, String, string_bytes, Result, Ok, Err, Option, Some, None}
use Rattle.std.specs.declared.alloc.Global.{Global}
use Rattle.serde_json.specs.Data.{Data, Members, member}
use Rattle.serde_json.specs.View.{view, members_view}
use Rattle.serde_json.specs.declared.value.Value.{Value}
use Rattle.pairs.specs.Labels.{label_of}
use Rattle.pushjson.specs.Bodies.{Stream, TimedLine, IsJson}
use Rattle.pushjson.specs.declared.fault.PushFault.{PushFault}
use Rattle.pushjson.specs.declared.fault.PushFault.TheVariants.{NotJson, WrongShape, TooManyParts, Memory}
use Rattle.pushjson.specs.Parts.{HasTooManyParts}
use Rattle.pushjson.specs.Queries.{Query, Trim}
use Rattle.pushjson.specs.declared.shape.StreamTexts.{StreamTexts}
use Rattle.pushjson.specs.declared.shape.ValueTexts.{ValueTexts}
use Rattle.pushjson.specs.declared.shape.QueryTexts.{QueryTexts}
use Rattle.pushjson.specs.declared.shape.TrimTexts.{TrimTexts}

-- why the tree d is refused where what is wanted prints as `tree`
abbrev pub IsFaultOf : {Y : Type 0} → (Y → Data) → Data → PushFault → Type 0
IsFaultOf {Y} tree d WrongShape = (y : Y) → d ≢ tree y
IsFaultOf tree d Memory = ⊤
IsFaultOf tree d fault = ⊥

-- the tree is that of what was read, as `of` sees it, or of nothing that could be
abbrev pub ReadsTree : {X Y : Type 0} → (X → Y) → (Y → Data) → Data → Result X PushFault → Type 0
ReadsTree of tree d (Ok x) = d ≡ tree (of x)
ReadsTree of tree d (Err e) = IsFaultOf tree d e

-- the first member has this key and goes, or there is none with it in front
abbrev pub TakesValue : List ℕ → List (String Global × Value) → Option Value → List (String Global × Value) → Type 0
TakesValue key before (Some v) after = members_view before ≡ member key (view v) (members_view after)
TakesValue key before None after = (d : Data) (ms : Members) → members_view before ≢ member key d ms

-- the tree of the bytes
abbrev pub ReadsData : List ℕ → Result Value PushFault → Type 0
ReadsData bytes (Ok tree) = (¬ HasTooManyParts bytes) × IsJson bytes (view tree)
ReadsData bytes (Err NotJson) = (¬ HasTooManyParts bytes) × ((d : Data) → ¬ IsJson bytes d)
ReadsData bytes (Err TooManyParts) = HasTooManyParts bytes
ReadsData bytes (Err Memory) = ⊤
ReadsData bytes (Err fault) = ⊥

-- the texts, without where they lie in memory
abbrev pub value_texts_of : ValueTexts → TimedLine
value_texts_of v = record { time = string_bytes v.time; line = string_bytes v.line; third = v.third }

abbrev pub stream_texts_of : StreamTexts → Stream
stream_texts_of s = record { pairs = map label_of s.pairs.items; values = map value_texts_of s.values.items }

abbrev pub query_texts_of : QueryTexts → Query
query_texts_of q = record { pairs = map label_of q.pairs.items; from = string_bytes q.from; to = string_bytes q.to }

abbrev pub trim_texts_of : TrimTexts → Trim
trim_texts_of t = record { pairs = map label_of t.pairs.items; bound = string_bytes t.bound }
