use Rattle.requests.proofs.Unique as unique
use Rattle.requests.proofs.laws.one_split.Goals as goal

pub returns-clause-one : goal.returns-clause-one
returns-clause-one c = unique.one_split

pub returns-clause-more : goal.returns-clause-more
returns-clause-more c = unique.go_on
