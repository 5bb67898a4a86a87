use Rattle.std.proofs.Common.{◌≡◌, length}
use Rattle.requests.specs.Fields.{lists}
use Rattle.requests.proofs.fields.lists.Given as goal

abbrev pub invariant-loop-more : goal.invariant-loop-more
invariant-loop-more l = lists l.word l.rest ≡ lists l.word l.list

abbrev pub decreases-loop-more : goal.decreases-loop-more
decreases-loop-more l = length l.rest
