use Rattle.programs.proofs.Servers.{server_of_four, server_of_five, said_by_four, said_by_five}
use Rattle.programs.proofs.server_in.Goals as goal

pub returns-in-len4-clause-given : goal.returns-in-len4-clause-given
returns-in-len4-clause-given c =
    server_of_four c.args.words.now c.folder-item.result c.port-item.result c.shards-item.result c.workers-item.result
    c.as_str-in-len4.result.now c.as_str-in-len4-2.result.now c.as_str-in-len4-3.result.now c.endless_of.result
    c.in-len4.len_at_least c.in-len4.len_below c.folder-item.is c.port-item.is c.shards-item.is c.workers-item.is
    c.as_str-in-len4.ensures.value c.as_str-in-len4-2.ensures.value c.as_str-in-len4-3.ensures.value c.endless_of.ensures.named

pub returns-in-len5-clause-given : goal.returns-in-len5-clause-given
returns-in-len5-clause-given c =
    server_of_five c.args.words.now c.folder-item-then-words-lt6.result c.port-item-then-words-lt6.result c.shards-item-then-words-lt6.result c.workers-item-then-words-lt6.result c.limit-item.result
    c.as_str-in-len5-2.result.now c.as_str-in-len5-3.result.now c.as_str-in-len5-4.result.now c.as_str-in-len5-5.result.now c.ending_of.result
    c.in-len5.len_at_least c.in-len5.len_below c.folder-item-then-words-lt6.is c.port-item-then-words-lt6.is c.shards-item-then-words-lt6.is c.workers-item-then-words-lt6.is c.limit-item.is
    c.as_str-in-len5-2.ensures.value c.as_str-in-len5-3.ensures.value c.as_str-in-len5-4.ensures.value c.as_str-in-len5-5.ensures.value c.ending_of.ensures.named

pub returns-in-len4-clause-says : goal.returns-in-len4-clause-says
returns-in-len4-clause-says c =
    said_by_four c.args.words.now c.folder-item.result c.port-item.result c.shards-item.result c.workers-item.result
    c.as_str.result.now c.as_str-in-len4.result.now c.as_str-in-len4-2.result.now c.as_str-in-len4-3.result.now c.endless_of.result
    c.in-len4.len_at_least c.in-len4.len_below c.folder-item.is c.port-item.is c.shards-item.is c.workers-item.is
    c.as_str.ensures.value c.as_str-in-len4.ensures.value c.as_str-in-len4-2.ensures.value c.as_str-in-len4-3.ensures.value c.endless_of.ensures.named c.endless_of.ensures.says

pub returns-in-len5-clause-says : goal.returns-in-len5-clause-says
returns-in-len5-clause-says c =
    said_by_five c.args.words.now c.folder-item-then-words-lt6.result c.port-item-then-words-lt6.result c.shards-item-then-words-lt6.result c.workers-item-then-words-lt6.result c.limit-item.result
    c.as_str-in-len5.result.now c.as_str-in-len5-2.result.now c.as_str-in-len5-3.result.now c.as_str-in-len5-4.result.now c.as_str-in-len5-5.result.now c.ending_of.result
    c.in-len5.len_at_least c.in-len5.len_below c.folder-item-then-words-lt6.is c.port-item-then-words-lt6.is c.shards-item-then-words-lt6.is c.workers-item-then-words-lt6.is c.limit-item.is
    c.as_str-in-len5.ensures.value c.as_str-in-len5-2.ensures.value c.as_str-in-len5-3.ensures.value c.as_str-in-len5-4.ensures.value c.as_str-in-len5-5.ensures.value c.ending_of.ensures.named c.ending_of.ensures.says
