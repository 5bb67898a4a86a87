use Rattle.programs.proofs.Questions.{asked_by_one}
use Rattle.programs.proofs.about.question_in.Goals as goal

pub returns-in-len1 : goal.returns-in-len1
returns-in-len1 c = asked_by_one c.args.words.now c.word-item.result c.as_str.result.now c.question_of.result c.in-len1.len_at_least c.in-len1.len_below c.word-item.is c.as_str.ensures.value c.question_of.ensures
