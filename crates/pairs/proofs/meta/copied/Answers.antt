use Rattle.pairs.proofs.Metas.{copies_are}
use Rattle.pairs.proofs.meta.copied.Goals as goal

pub returns : goal.returns
returns c = copies_are _ c.clone.result c.args.pairs.now.items _ c.clone.ensures.cases
