use Rattle.labels.proofs.Chars.{cut_at_equals}
use Rattle.labels.proofs.parsing.cut_at_equals.Goals as goal

pub returns : goal.returns
returns c = cut_at_equals _ _ c.split_once.ensures.cases
