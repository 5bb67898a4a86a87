use Rattle.std.proofs.Common.{◌≡◌}
use Rattle.disk.proofs.FileLemmas.{WriteLoop, CallLoop}
use Rattle.disk.proofs.file.FileDiskDisk.write_at.Given as goal

abbrev pub invariant-loop : goal.invariant-loop
invariant-loop l = record {
  writes : WriteLoop l.initial.self.calls.noted l.self.calls.noted l.at l.from l.bytes;
  calls : CallLoop l.counter l.initial.self.calls.noted.calls l.self.calls.noted.calls;
  count : l.self.failures ≡ l.initial.self.failures;
}
