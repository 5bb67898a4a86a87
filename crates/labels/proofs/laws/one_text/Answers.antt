use Rattle.labels.proofs.Sets.{one_text_of}
use Rattle.labels.proofs.laws.one_text.Goals as goal

pub returns-clause-set : goal.returns-clause-set
returns-clause-set c = one_text_of
