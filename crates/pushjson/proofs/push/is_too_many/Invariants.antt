use Rattle.std.proofs.Common.{◌≡◌, ◌+◌, length, sum_by, take}
use Rattle.pushjson.proofs.push.is_too_many.Given as goal

abbrev pub invariant-loop-batch : goal.invariant-loop-batch
invariant-loop-batch l = l.room + sum_by (λ b. length b.entries) (take l.batch-index l.batches) ≡ 10000
