use Rattle.std.proofs.Common.{◌≡◌}
use Rattle.conformance.proofs.opened.OnePassIngester.steps.Given as goal

abbrev pub invariant-loop-shard : goal.invariant-loop-shard
invariant-loop-shard l = l.self.count ≡ l.initial.self.count
