use Rattle.std.proofs.Common.{◌≡◌, ◌+◌, map, drop}
use Rattle.pairs.specs.Labels.{label_of}
use Rattle.pairs.specs.Metas.{meta_room}
use Rattle.pairs.proofs.meta.Meta.room.Given as goal

abbrev pub invariant-loop-name : goal.invariant-loop-name
invariant-loop-name l = l.room + meta_room (map label_of (drop l.name-index l.name-items)) ≡ meta_room (map label_of l.name-items)
