use Rattle.std.proofs.Common.{◌≡◌, drop}
use Rattle.openings.specs.Places.{first_refused}
use Rattle.openings.proofs.side_by_side.find_refused.Given as goal

-- none of those before is refused
abbrev pub invariant-loop-shard : goal.invariant-loop-shard
invariant-loop-shard g l = first_refused l.shard (drop l.shard l.places.items) ≡ first_refused 0 l.places.items
