-- Names with values, as labels and metadata have them.
use Rattle.std.specs.Prelude.{ℕ, List, string_bytes, String}
use Rattle.std.specs.declared.alloc.Global.{Global}

-- a name and a value, by their bytes
abbrev pub Label : Type 0
Label = List ℕ × List ℕ

-- a pair of texts as contracts see it
abbrev pub label_of : String Global × String Global → Label
label_of p = (string_bytes p.0, string_bytes p.1)
