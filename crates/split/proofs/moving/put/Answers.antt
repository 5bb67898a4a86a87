use Rattle.std.proofs.Common.{◌∙◌}
use Rattle.std.proofs.lemmas.List.{take_at}
use Rattle.split.proofs.Places.{put_behind}
use Rattle.split.proofs.moving.put.Goals as goal

pub returns-clause-items : goal.returns-clause-items
returns-clause-items g c = λ all taken lt is.
    let ys = c.swap.new.self in
    let s = c.as_mut_slice.ensures in
    take_at ys _ _ (c.swap.ensures.len ∙ s.len)
    ∙ put_behind all c.args.list.now.items c.as_mut_slice.result.now ys c.args.place c.len-last.result taken c.args.value lt is (s.value ∙ c.push_reserved.ensures.items) (c.len-last.ensures ∙ c.args.list.now.ok.0) c.swap.ensures.len c.swap.ensures.by_index
