use Rattle.programs.proofs.Calls.{call_of_five, call_said}
use Rattle.programs.proofs.call_in.Goals as goal

pub returns-in-len5-clause-given : goal.returns-in-len5-clause-given
returns-in-len5-clause-given c =
    call_of_five c.args.words.now c.verb-item.result c.folder-item.result c.shards-item.result c.tenant-item.result c.now-item.result
    c.as_str.result.now c.as_str-in-len5-2.result.now c.as_str-in-len5-3.result.now c.as_str-in-len5-4.result.now c.call_of.result
    c.in-len5.len_at_least c.in-len5.len_below c.verb-item.is c.folder-item.is c.shards-item.is c.tenant-item.is c.now-item.is
    c.as_str.ensures.value c.as_str-in-len5-2.ensures.value c.as_str-in-len5-3.ensures.value c.as_str-in-len5-4.ensures.value c.call_of.ensures.named

pub returns-in-len5-clause-says : goal.returns-in-len5-clause-says
returns-in-len5-clause-says c =
    call_said c.args.words.now c.verb-item.result c.folder-item.result c.shards-item.result c.tenant-item.result c.now-item.result
    c.as_str.result.now c.as_str-in-len5.result.now c.as_str-in-len5-2.result.now c.as_str-in-len5-3.result.now c.as_str-in-len5-4.result.now c.call_of.result
    c.in-len5.len_at_least c.in-len5.len_below c.verb-item.is c.folder-item.is c.shards-item.is c.tenant-item.is c.now-item.is
    c.as_str.ensures.value c.as_str-in-len5.ensures.value c.as_str-in-len5-2.ensures.value c.as_str-in-len5-3.ensures.value c.as_str-in-len5-4.ensures.value c.call_of.ensures.named c.call_of.ensures.says
