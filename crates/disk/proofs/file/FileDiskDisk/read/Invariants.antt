use Rattle.std.proofs.Common.{◌≡◌}
use Rattle.disk.proofs.FileLemmas.{ReadLoop, CallLoop}
use Rattle.disk.proofs.file.FileDiskDisk.read.Given as goal

abbrev pub invariant-loop : goal.invariant-loop
invariant-loop l = record {
  reads : ReadLoop l.initial.self.calls.noted l.self.calls.noted l.at l.from l.buf;
  calls : CallLoop l.counter l.initial.self.calls.noted.calls l.self.calls.noted.calls;
  count : l.self.failures ≡ l.initial.self.failures;
}
