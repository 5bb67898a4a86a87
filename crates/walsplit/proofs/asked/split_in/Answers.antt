use Rattle.walsplit.proofs.Splits.{split_of_three, split_said}
use Rattle.walsplit.proofs.asked.split_in.Goals as goal

pub returns-in-len3-clause-given : goal.returns-in-len3-clause-given
returns-in-len3-clause-given c =
    split_of_three c.args.words.now c.old-item.result c.new-item.result c.count-item.result c.as_str-in-len3-2.result.now c.split_of.result
    c.in-len3.len_at_least c.in-len3.len_below c.old-item.is c.new-item.is c.count-item.is c.as_str-in-len3-2.ensures.value c.split_of.ensures.named

pub returns-in-len3-clause-says : goal.returns-in-len3-clause-says
returns-in-len3-clause-says c =
    split_said c.args.words.now c.old-item.result c.new-item.result c.count-item.result
    c.as_str.result.now c.as_str-in-len3.result.now c.as_str-in-len3-2.result.now c.split_of.result
    c.in-len3.len_at_least c.in-len3.len_below c.old-item.is c.new-item.is c.count-item.is
    c.as_str.ensures.value c.as_str-in-len3.ensures.value c.as_str-in-len3-2.ensures.value c.split_of.ensures.named c.split_of.ensures.says
