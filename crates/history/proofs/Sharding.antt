-- Which shard a key belongs to.
use Rattle.std.proofs.Common.{◌<◌, arith}
use Rattle.history.proofs.Common.{Ask, About, shard_in}
use Rattle.history.specs.Shards.{shard_of}

-- a key belongs to one of the shards
pub shard_below : (about : About) (a : Ask) → 0 < about.shards → shard_in about a < about.shards
unfolding shard_of
shard_below about a h = omega arith
