-- Which keys belong to a shard.
use Rattle.std.specs.Prelude.{ℕ, ◌==◌, Bool}
use Rattle.labels.specs.declared.key.StreamKey.{StreamKey}
use Rattle.labels.specs.Shards.{shard}

-- the shard of a key among n shards
unfoldable pub shard_of : StreamKey → ℕ → ℕ
shard_of key n = shard key n

-- among n shards the key belongs to shard k
abbrev pub is_of_shard : ℕ → ℕ → StreamKey → Bool
is_of_shard n k key = k == shard_of key n
