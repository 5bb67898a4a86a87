use Rattle.std.proofs.Common.{◌≡◌, suc, ◌∷◌, map, vec_len, drop, take, ap, ◌∙◌, arith}
use Rattle.std.proofs.lemmas.Grind.{common_steps}
use Rattle.pushjson.specs.Times.{IsTime}
use Rattle.pushjson.specs.Bodies.{entry_of_line}
use Rattle.pushjson.specs.Shape.{value_texts_of}
use Rattle.pushjson.proofs.Beginnings.{parted, whole, all_more, map_more}
use Rattle.pushjson.proofs.push.entries_of.Goals as goal

pub loop-time-preserved : goal.loop-time-preserved
loop-time-preserved c =
    let values = map value_texts_of c.args.values.items in
    let n = vec_len c.loop-time.entries in
    let step : drop n values ≡ value_texts_of c.in-Some.field-0 ∷ _ = c.loop-time.invariant.left ∙ ap (map value_texts_of) c.in-Some.ensures.steps.0 in
    let len : vec_len c.push.new.self ≡ suc n = grind (arith, common_steps) in
    record {
      read = rw len (map_more entry_of_line values n _ _ _ _ step c.loop-time.invariant.read (grind (arith, common_steps)));
      times = rw len (all_more (λ v. IsTime v.time) values n _ _ step c.loop-time.invariant.times (rw (← c.as_str.ensures.value) c.in-Some-time_of.ensures.0));
      left = rw len (parted values n _ _ step).1;
    }

pub returns : goal.returns
returns c =
    let values = map value_texts_of c.args.values.items in
    let all : take (vec_len c.loop-time.entries) values ≡ values = whole values _ (c.loop-time.invariant.left ∙ grind (arith, common_steps)) in
    (rw (← all) c.loop-time.invariant.times, c.loop-time.invariant.read ∙ ap (map entry_of_line) all)
