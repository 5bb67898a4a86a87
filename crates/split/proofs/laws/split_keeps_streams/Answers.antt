use Rattle.split.proofs.Backs.{kept, not_new, apart_then, one_split, back_again}
use Rattle.split.proofs.laws.split_keeps_streams.Goals as goal

pub returns-clause-kept : goal.returns-clause-kept
returns-clause-kept c = kept

pub returns-clause-not_new : goal.returns-clause-not_new
returns-clause-not_new c = not_new

pub returns-clause-apart : goal.returns-clause-apart
returns-clause-apart c = apart_then

pub returns-clause-one : goal.returns-clause-one
returns-clause-one c = one_split

pub returns-clause-back : goal.returns-clause-back
returns-clause-back c = back_again
