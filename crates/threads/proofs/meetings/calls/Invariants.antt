use Rattle.std.proofs.Common.{◌≡◌, []}
use Rattle.threads.proofs.meetings.calls.Given as goal

abbrev pub invariant-loop-made : goal.invariant-loop-made
invariant-loop-made g l = (l.pass.table ≡ g.J.Room.table) × (l.pass.caller.about.shards ≡ 1) × (l.pass.caller.pending ≡ []) × (l.pass.caller.last ≡ l.made)
