use Rattle.std.proofs.Common.{◌≡◌, false, map, take}
use Rattle.httparse.specs.Spans.{header_bytes}
use Rattle.requests.specs.Fields.{has_field}
use Rattle.requests.proofs.fields.has_field.Given as goal

abbrev pub invariant-loop-field : goal.invariant-loop-field
invariant-loop-field l = has_field l.name (map (header_bytes l.bytes) (take l.field-index l.fields)) ≡ false
