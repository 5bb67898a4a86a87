use Rattle.std.proofs.Common.{◌≡◌, false, map, take}
use Rattle.httparse.specs.Spans.{header_bytes}
use Rattle.requests.specs.Fields.{has_word}
use Rattle.requests.proofs.fields.has_word.Given as goal

abbrev pub invariant-loop-field : goal.invariant-loop-field
invariant-loop-field l = has_word l.name l.word (map (header_bytes l.bytes) (take l.field-index l.fields)) ≡ false
