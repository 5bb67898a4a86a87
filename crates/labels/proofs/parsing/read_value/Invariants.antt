use Rattle.std.proofs.Common.{◌≡◌, ◌≤◌, ◌++◌, ℕ, List, length}
use denote.Text.{Utf8}
use denote.Shadow.{shadow}
use Rattle.std.specs.List.{flat_map}
use Rattle.std.specs.Str.{chars, encode_utf8_all}
use Rattle.labels.specs.Canonical.{escape}
use Rattle.labels.proofs.parsing.read_value.Given as goal

-- some characters are read, of the counted length, and the rest is left
abbrev pub invariant-loop-width : goal.invariant-loop-width
invariant-loop-width l = shadow (Utf8 l.rest) × ((cs : List ℕ) × (chars l.text ≡ flat_map escape cs ++ chars l.rest) × (length (encode_utf8_all cs) ≡ l.length)) × (l.length ≤ 2048)

abbrev pub decreases-loop-width : goal.decreases-loop-width
decreases-loop-width l = length (chars l.rest)
