use Rattle.pushjson.proofs.Existence.{one_answer, one_query, one_trim}
use Rattle.pushjson.proofs.laws.one_answer.Goals as goal

pub returns : goal.returns
returns c = record { push = one_answer; query = one_query; trim = one_trim }
