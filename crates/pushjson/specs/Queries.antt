-- The JSON trees of query and trim bodies, and what such bodies are read as.
use Rattle.std.specs.Prelude.{◌≡◌, ◌≢◌, ⊤, ℕ, List, codes, Result, Ok, Err}
use Rattle.std.specs.Str.Parse.{digits_value}
use Rattle.serde_json.specs.Data.{Data, string, object, no_members, member}
use Rattle.pairs.specs.Labels.{Label}
use Rattle.pushjson.specs.Times.{IsTime}
use Rattle.pushjson.specs.Bodies.{labels_tree, IsJson}
use Rattle.pushjson.specs.Parts.{OfOthers}
use Rattle.pushjson.specs.declared.query.RawRead.{RawRead}
use Rattle.pushjson.specs.declared.query.RawTrim.{RawTrim}
use Rattle.pushjson.specs.declared.fault.PushFault.{PushFault}
use Rattle.pushjson.specs.declared.fault.PushFault.TheVariants.{NotJson, WrongShape, BadTime, TooManyEntries, TooManyParts, Memory}

-- labels, and the texts of two times
pub record Query : Type 0 where
  pub pairs : List Label
  pub from : List ℕ
  pub to : List ℕ

-- labels, and the text of a time
pub record Trim : Type 0 where
  pub pairs : List Label
  pub bound : List ℕ

abbrev pub query_tree : Query → Data
query_tree q =
    object (member (codes "from") (string q.from)
    (member (codes "stream") (object (labels_tree q.pairs))
    (member (codes "to") (string q.to) no_members)))

abbrev pub trim_tree : Trim → Data
trim_tree t =
    object (member (codes "bound") (string t.bound)
    (member (codes "stream") (object (labels_tree t.pairs)) no_members))

-- what is asked for
abbrev pub raw_read_of : Query → RawRead
raw_read_of q = record { pairs = q.pairs; from = digits_value 10 q.from; to = digits_value 10 q.to }

abbrev pub raw_trim_of : Trim → RawTrim
raw_trim_of t = record { pairs = t.pairs; bound = digits_value 10 t.bound }

-- the answer to a query body of these bytes, by its tree
abbrev pub IsQueryOfTree : List ℕ → Result RawRead PushFault → Type 0
IsQueryOfTree bytes (Ok r) = (q : Query) × IsJson bytes (query_tree q) × IsTime q.from × IsTime q.to
    × (r ≡ raw_read_of q)
IsQueryOfTree bytes (Err NotJson) = (d : Data) → ¬ IsJson bytes d
IsQueryOfTree bytes (Err WrongShape) = (d : Data) × IsJson bytes d × ((q : Query) → d ≢ query_tree q)
IsQueryOfTree bytes (Err (BadTime i j)) = (q : Query) × IsJson bytes (query_tree q) × (¬ (IsTime q.from × IsTime q.to))
    × (i ≡ 0) × (j ≡ 0)
IsQueryOfTree bytes (Err TooManyEntries) = ⊥
IsQueryOfTree bytes (Err TooManyParts) = ⊥
IsQueryOfTree bytes (Err Memory) = ⊤

-- the answer to a trim body of these bytes, by its tree
abbrev pub IsTrimOfTree : List ℕ → Result RawTrim PushFault → Type 0
IsTrimOfTree bytes (Ok r) = (t : Trim) × IsJson bytes (trim_tree t) × IsTime t.bound × (r ≡ raw_trim_of t)
IsTrimOfTree bytes (Err NotJson) = (d : Data) → ¬ IsJson bytes d
IsTrimOfTree bytes (Err WrongShape) = (d : Data) × IsJson bytes d × ((t : Trim) → d ≢ trim_tree t)
IsTrimOfTree bytes (Err (BadTime i j)) = (t : Trim) × IsJson bytes (trim_tree t) × (¬ IsTime t.bound)
    × (i ≡ 0) × (j ≡ 0)
IsTrimOfTree bytes (Err TooManyEntries) = ⊥
IsTrimOfTree bytes (Err TooManyParts) = ⊥
IsTrimOfTree bytes (Err Memory) = ⊤

-- the answers to a query and to a trim body of these bytes
abbrev pub ReadsQuery : List ℕ → Result RawRead PushFault → Type 0
ReadsQuery bytes = OfOthers bytes (IsQueryOfTree bytes)

abbrev pub ReadsTrim : List ℕ → Result RawTrim PushFault → Type 0
ReadsTrim bytes = OfOthers bytes (IsTrimOfTree bytes)
