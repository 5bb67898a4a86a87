use Rattle.labels.proofs.Sets.{one_set_of}
use Rattle.labels.proofs.laws.one_set.Goals as goal

pub returns-clause-set : goal.returns-clause-set
returns-clause-set c = one_set_of
