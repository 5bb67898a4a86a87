use Rattle.programs.proofs.Clocks.{clock_of, clock_said}
use Rattle.programs.proofs.clock_in.Goals as goal

pub returns-in-len1-clause-given : goal.returns-in-len1-clause-given
returns-in-len1-clause-given c = clock_of c.args.words.now c.word-item.result c.as_str.result.now c.time_of.result c.in-len1.len_at_least c.in-len1.len_below c.word-item.is c.as_str.ensures.value c.time_of.ensures

pub returns-in-len1-clause-says : goal.returns-in-len1-clause-says
returns-in-len1-clause-says c = clock_said c.args.words.now c.word-item.result c.as_str.result.now c.time_of.result c.in-len1.len_at_least c.in-len1.len_below c.word-item.is c.as_str.ensures.value c.time_of.ensures
