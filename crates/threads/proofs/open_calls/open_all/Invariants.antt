use Rattle.std.proofs.Common.{◌≤◌, length}
use Rattle.threads.specs.Windows.{AreBooks, HaveAll, IsWindow}
use Rattle.threads.proofs.open_calls.open_all.Given as goal

abbrev pub invariant-loop-call : goal.invariant-loop-call
invariant-loop-call g l =
    let about = g.J.TestOpening.about in
    AreBooks g.J.TestOpening.table about l.zero l.one × IsWindow g.J.TestOpening.table about l.pass l.answers.items × HaveAll about l.pass.caller.pending l.zero l.one × (length l.pass.caller.pending ≤ l.call-index)
