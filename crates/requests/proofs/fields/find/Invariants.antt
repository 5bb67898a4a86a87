use Rattle.std.proofs.Common.{◌≡◌, map, take}
use Rattle.httparse.specs.Spans.{header_bytes}
use Rattle.requests.specs.Fields.{values_of}
use Rattle.requests.specs.Finding.{seen}
use Rattle.requests.proofs.fields.find.Given as goal

abbrev pub invariant-loop-field : goal.invariant-loop-field
invariant-loop-field l = values_of l.name (map (header_bytes l.bytes) (take l.field-index l.fields)) ≡ seen l.value
