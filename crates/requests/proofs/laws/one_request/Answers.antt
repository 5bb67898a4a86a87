use Rattle.requests.proofs.Unique as unique
use Rattle.requests.proofs.laws.one_request.Goals as goal

pub returns-clause-one : goal.returns-clause-one
returns-clause-one c = unique.one_request

pub returns-clause-kept : goal.returns-clause-kept
returns-clause-kept c = unique.keeps_request

pub returns-clause-refused : goal.returns-clause-refused
returns-clause-refused c = unique.refuses_for_good

pub returns-clause-cut : goal.returns-clause-cut
returns-clause-cut c = unique.none_if_cut
