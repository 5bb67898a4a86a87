use Rattle.std.proofs.Common.{◌≡◌, map, drop}
use Rattle.std.specs.List.{list_all}
use Rattle.pairs.specs.Labels.{label_of}
use Rattle.pairs.specs.Metas.{is_short_pair}
use Rattle.pairs.proofs.meta.are_short.Given as goal

-- the pairs seen so far are short
abbrev pub invariant-loop-name : goal.invariant-loop-name
invariant-loop-name l = list_all is_short_pair (map label_of (drop l.name-index l.pairs)) ≡ list_all is_short_pair (map label_of l.pairs)
