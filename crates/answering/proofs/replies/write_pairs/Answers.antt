use Rattle.std.proofs.Common.{◌∙◌}
use Rattle.answering.proofs.Writing.{pair_more}
use Rattle.answering.proofs.replies.write_pairs.Goals as goal

pub loop-name-preserved : goal.loop-name-preserved
loop-name-preserved c = (
  c.write_pair.ensures.before ∙ c.loop-name.invariant.0,
  pair_more _ c.args.pairs.now c.loop-name.name-index _ _ _ _ _ c.loop-name-test.true c.loop-name-item.is c.loop-name.invariant.1 c.as_str.ensures.value c.as_str-in-loop-name.ensures.value c.in_ok-write_pair.ensures.tokens,
)
