-- Which shard a key belongs to.
use Rattle.std.specs.Prelude.{ℕ, ◌*◌, ◌%◌, ◌^◌, List, ◌∷◌, ◌++◌}
use Rattle.std.specs.Int.Bits.{bit_xor}
use Rattle.std.specs.List.{fold}
use Rattle.labels.specs.declared.key.StreamKey.{StreamKey}

-- one byte more: exclusive-or first, then the product modulo 2 ^ 64
abbrev pub fnv_step : ℕ → ℕ → ℕ
fnv_step hash byte = bit_xor hash byte * 1099511628211 % 2 ^ 64

-- the FNV-1a hash of 64 bits
abbrev pub fnv : List ℕ → ℕ
fnv bytes = fold fnv_step 14695981039346656037 bytes

-- the most shards among which keys may be spread
abbrev pub max_shards : ℕ
max_shards = 64

-- the hash of tenant, zero byte and canonical text, modulo the count
abbrev pub shard : StreamKey → ℕ → ℕ
shard key count = fnv (key.tenant ++ 0 ∷ key.labels) % count
