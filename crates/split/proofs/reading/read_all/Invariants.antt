use Rattle.std.proofs.Common.{◌≡◌}
use Rattle.std.specs.Prelude.{vec_len}
use Rattle.std.specs.Vec.{vec_capacity}
use Rattle.segment.specs.ShardPlaces.{place_of}
use Rattle.split.specs.Maps.{map_at}
use Rattle.split.specs.Stages.{AreDone, IsOldShardOpened}
use Rattle.split.proofs.reading.read_all.Given as goal

abbrev pub invariant-loop-shard : goal.invariant-loop-shard
invariant-loop-shard g l = record {
  len : vec_len l.old ≡ vec_len l.initial.old;
  images : vec_len l.images ≡ l.shard;
  room : vec_capacity l.images ≡ vec_len l.initial.old;
  done : AreDone (λ s given back. IsOldShardOpened g.D.Disk.sight g.D.Disk.follows (place_of s (vec_len l.initial.old)) given back (map_at l.images.items s)) l.shard l.initial.old.items l.old.items;
}
