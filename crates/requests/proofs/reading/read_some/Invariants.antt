-- A failed read takes nothing.
use Rattle.std.proofs.Common.{◌≡◌, length}
use Rattle.std.specs.Io.KnownBytes.{Keeps}
use Rattle.requests.proofs.reading.read_some.Given as goal

abbrev pub invariant-loop-turn : goal.invariant-loop-turn
invariant-loop-turn g l = (length l.space ≡ length l.initial.space) × Keeps (g.R.Read.remaining l.initial.reader) (g.R.Read.remaining l.reader)
