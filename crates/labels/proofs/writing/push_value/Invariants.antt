use Rattle.std.proofs.Common.{◌≡◌, ◌++◌, string_bytes}
use Rattle.std.specs.List.{flat_map}
use Rattle.std.specs.Str.{encode_utf8_all}
use Rattle.labels.specs.Canonical.{escape}
use Rattle.labels.proofs.writing.push_value.Given as goal

-- the characters seen so far are written
abbrev pub invariant-loop-character : goal.invariant-loop-character
invariant-loop-character l = string_bytes l.out ≡ string_bytes l.fn.out ++ flat_map escape (encode_utf8_all l.yielded)
