use Rattle.programs.proofs.Places.{place_of_three, place_said}
use Rattle.programs.proofs.place_in.Goals as goal

pub returns-in-len3-clause-given : goal.returns-in-len3-clause-given
returns-in-len3-clause-given c =
    place_of_three c.args.words.now c._file-item.result c.shard-item.result c.count-item.result c.as_str.result.now c.as_str-in-len3.result.now c.place_of.result
    c.in-len3.len_at_least c.in-len3.len_below c._file-item.is c.shard-item.is c.count-item.is c.as_str.ensures.value c.as_str-in-len3.ensures.value c.place_of.ensures

pub returns-in-len3-clause-says : goal.returns-in-len3-clause-says
returns-in-len3-clause-says c =
    place_said c.args.words.now c._file-item.result c.shard-item.result c.count-item.result c.as_str.result.now c.as_str-in-len3.result.now c.place_of.result
    c.in-len3.len_at_least c.in-len3.len_below c._file-item.is c.shard-item.is c.count-item.is c.as_str.ensures.value c.as_str-in-len3.ensures.value c.place_of.ensures
