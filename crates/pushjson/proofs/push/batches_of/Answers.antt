use Rattle.std.proofs.Common.{◌≡◌, suc, ◌∷◌, map, vec_len, drop, take, ap, ◌∙◌, arith}
use Rattle.std.proofs.lemmas.Grind.{common_steps}
use Rattle.pushjson.specs.Shape.{stream_texts_of}
use Rattle.pushjson.specs.Bodies.{AreTimed, batch_of}
use Rattle.pushjson.proofs.Beginnings.{parted, whole, all_more, map_more}
use Rattle.pushjson.proofs.push.batches_of.Goals as goal

pub loop-pairs-preserved : goal.loop-pairs-preserved
loop-pairs-preserved c =
    let streams = map stream_texts_of c.args.streams.items in
    let n = vec_len c.loop-pairs.batches in
    let step : drop n streams ≡ stream_texts_of c.in-Some.field-0 ∷ _ = c.loop-pairs.invariant.left ∙ ap (map stream_texts_of) c.in-Some.ensures.steps.0 in
    let len : vec_len c.push.new.self ≡ suc n = grind (arith, common_steps) in
    record {
      read = rw len (map_more batch_of streams n _ _ _ _ step c.loop-pairs.invariant.read (grind (arith, common_steps)));
      times = rw len (all_more (λ s. AreTimed s.values) streams n _ _ step c.loop-pairs.invariant.times c.in_ok-entries.ensures.0);
      left = rw len (parted streams n _ _ step).1;
    }

pub returns : goal.returns
returns c =
    let streams = map stream_texts_of c.args.streams.items in
    let all : take (vec_len c.loop-pairs.batches) streams ≡ streams = whole streams _ (c.loop-pairs.invariant.left ∙ grind (arith, common_steps)) in
    (rw (← all) c.loop-pairs.invariant.times, c.loop-pairs.invariant.read ∙ ap (map batch_of) all)
