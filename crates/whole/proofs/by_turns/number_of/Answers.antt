use Rattle.std.proofs.Common.{sym, ap, ◌∙◌}
use Rattle.labels.specs.Shards.{shard}
use Rattle.labels.specs.declared.key.StreamKey.{StreamKey}
use Rattle.history.specs.Shards.{shard_of}
use Rattle.whole.proofs.by_turns.number_of.Goals as goal

pub returns-clause-on : goal.returns-clause-on
unfolding shard_of
returns-clause-on c = sym (c.shard_of.ensures.shard ∙ ap (λ (k : StreamKey). shard k 2) c.key.ensures)
