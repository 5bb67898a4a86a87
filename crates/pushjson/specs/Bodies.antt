-- The JSON tree that a push body of given streams is.
use Rattle.std.specs.Prelude.{◌≡◌, ℕ, ◌<◌, List, [], ◌∷◌, length, map, take, codes, sum_by, Option, None, Some, unwrap_or, IsUtf8, HoldsAt, All}
use Rattle.std.specs.Ordering.{nat_cmp}
use Rattle.std.specs.Cmp.Lexicographic.{slice_cmp}
use Rattle.std.specs.List.Sorted.{IsStrictlySortedBy}
use Rattle.std.specs.Str.Parse.{digits_value}
use Rattle.serde_json.specs.Data.{Data, string, array, object, Members, no_members, member}
use Rattle.serde_json.specs.Read.{read}
use Rattle.serde_json.specs.View.{items_of}
use Rattle.pairs.specs.Labels.{Label}
use Rattle.entries.specs.declared.entry.Entry.{Entry}
use Rattle.pushjson.specs.Times.{IsTime}
use Rattle.pushjson.specs.declared.push.RawBatch.{RawBatch}

-- a value as a body writes it: the text of a time, a line, and metadata where there is a third element
pub record TimedLine : Type 0 where
  pub time : List ℕ
  pub line : List ℕ
  pub third : Option (List Label)

-- a stream as a body writes it: its labels, and its values
pub record Stream : Type 0 where
  pub pairs : List Label
  pub values : List TimedLine

abbrev pub labels_tree : List Label → Members
labels_tree [] = no_members
labels_tree (p ∷ ps) = member p.0 (string p.1) (labels_tree ps)

abbrev pub third_tree : Option (List Label) → List Data
third_tree None = []
third_tree (Some pairs) = object (labels_tree pairs) ∷ []

abbrev pub value_tree : TimedLine → Data
value_tree v = array (items_of (string v.time ∷ string v.line ∷ third_tree v.third))

abbrev pub stream_tree : Stream → Data
stream_tree s =
    object (member (codes "stream") (object (labels_tree s.pairs))
    (member (codes "values") (array (items_of (map value_tree s.values))) no_members))

abbrev pub body_tree : List Stream → Data
body_tree streams = object
    (member (codes "streams") (array (items_of (map stream_tree streams))) no_members)

-- the names stand in strictly rising byte order
abbrev pub HaveRisingNames : List Label → Type 0
HaveRisingNames pairs = IsStrictlySortedBy (slice_cmp nat_cmp) (map (λ p. p.0) pairs)

-- the bytes are a JSON text of this tree
abbrev pub IsJson : List ℕ → Data → Type 0
IsJson bytes d = IsUtf8 bytes × (read bytes ≡ Some d)

-- each of these lines has a time
abbrev pub AreTimed : List TimedLine → Type 0
AreTimed values = All (λ v. IsTime v.time) values

abbrev pub HaveTimes : List Stream → Type 0
HaveTimes streams = All (λ s. AreTimed s.values) streams

-- the time at j is none, and those before it are
pub record IsFirstBad (values : List TimedLine) (j : ℕ) : Type 0 where
  pub within : j < length values
  pub here : HoldsAt (λ v. ¬ IsTime v.time) values j
  pub earlier : AreTimed (take j values)

-- the time at j of the stream at i is none, and those before it are
pub record IsFirstBadTime (streams : List Stream) (i j : ℕ) : Type 0 where
  pub within : i < length streams
  pub here : HoldsAt (λ s. IsFirstBad s.values j) streams i
  pub earlier : HaveTimes (take i streams)

abbrev pub entry_count : List Stream → ℕ
entry_count streams = sum_by (λ s. length s.values) streams

-- without a third element there is no metadata
abbrev pub entry_of_line : TimedLine → Entry
entry_of_line v = record { time = digits_value 10 v.time; line = v.line; meta = unwrap_or v.third [] }

abbrev pub batch_of : Stream → RawBatch
batch_of s = record { pairs = s.pairs; entries = map entry_of_line s.values }
