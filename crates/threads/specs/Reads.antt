-- A read that has no answer but an empty one, unless its shard has failed.
use Rattle.std.specs.Prelude.{◌≡◌}
use Rattle.labels.specs.declared.key.StreamKey.{StreamKey}
use Rattle.accept.specs.declared.call.Call.{Call}
use Rattle.accept.specs.declared.call.Call.TheVariants.{Read}

-- the call reads no time
abbrev pub ReadsNothing : Call → Type 0
ReadsNothing call = (key : StreamKey) × (call ≡ Read key 0 0)
