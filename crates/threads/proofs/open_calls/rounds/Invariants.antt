use Rattle.std.proofs.Common.{◌≡◌, []}
use Rattle.threads.specs.Windows.{IsWindow}
use Rattle.threads.proofs.open_calls.rounds.Given as goal

abbrev pub invariant-loop-round : goal.invariant-loop-round
invariant-loop-round g l = IsWindow g.J.TestOpening.table g.J.TestOpening.about l.pass l.answers.items × (l.pass.caller.pending ≡ [])
