use Rattle.std.proofs.Common.{◌≡◌, Some, drop}
use Rattle.programs.specs.Durations.{read_bytes, duration_after, nothing_read}
use Rattle.programs.proofs.durations.nanos_in.Given as goal

abbrev pub invariant-loop-byte : goal.invariant-loop-byte
invariant-loop-byte l = duration_after (read_bytes (Some l.parts) (drop l.byte-index l.bytes)) ≡ duration_after (read_bytes (Some nothing_read) l.bytes)
