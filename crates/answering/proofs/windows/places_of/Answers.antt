use Rattle.std.proofs.Common.{◌≡◌, ◌∷◌, [], ◌++◌, List, Option, All, map, length, sym, ap, subst, arith}
use Rattle.std.proofs.lemmas.List.Elements.{All-nil, All-rest, All-head, All-tail, All-push}
use Rattle.std.proofs.lemmas.Grind.{common_steps}
use Rattle.std.specs.Vec.Iter.{into_iter_items}
use Rattle.labels.specs.declared.fault.LabelFault.{LabelFault}
use Rattle.accept.specs.Calls.{AreNumbers}
use Rattle.accept.specs.declared.call.Call.{Call}
use Rattle.accept.specs.declared.call.Call.TheVariants.{Push}
use Rattle.answering.specs.Asking.{IsCallOf, HasNumbers, asked_push}
use Rattle.answering.specs.Parts.{IsUncalled}
use Rattle.answering.specs.Windows.{AreStreams}
use Rattle.answering.proofs.Pushing.{refused_more, called_more, streams_all}
use Rattle.answering.proofs.windows.places_of.Goals as goal

pub loop-pairs-init : goal.loop-pairs-init
loop-pairs-init c =
    let rest = c.into_iter-pairs-iterator.ensures.into_iter_gives in
    let asked = asked_push c.args.now in
    record {
      given = subst (All (λ b. HasNumbers (asked b))) (sym rest.0) c.requires;
      are = λ ps cs are. rw (c.in-Ok.ensures.items, c.in-Ok-with_capacity.ensures.items) (subst (λ l. AreStreams c.args.tenant.now (map asked l) ps cs) rest.0 are);
      numbers = rw c.in-Ok-with_capacity.ensures.items (All-nil AreNumbers);
      places_fit = omega (arith, c.in-Ok.ensures.len, c.in-Ok.ensures.capacity, c.len.ensures, ap length rest.0, c.args.batches.ok);
      calls_fit = omega (arith, c.in-Ok-with_capacity.ensures.len, c.in-Ok-with_capacity.ensures.capacity, c.len-2.ensures, ap length rest.0, c.args.batches.ok);
    }

pub loop-pairs-preserved-in-Ok-key_of : goal.loop-pairs-preserved-in-Ok-key_of
loop-pairs-preserved-in-Ok-key_of c =
    let inv = c.loop-pairs.invariant in
    let batch = c.in-Some.field-0 in
    let rest = into_iter_items c.next.new.self in
    let asked = asked_push c.args.now in
    let tenant = c.args.tenant.now in
    let all = map asked c.args.batches.items in
    let step : into_iter_items c.loop-pairs.pairs-iterator ≡ batch ∷ rest = c.in-Some.ensures.steps.0 in
    let so_far = subst (λ l. (ps : List (Option LabelFault)) (cs : List Call) → AreStreams tenant (map asked l) ps cs → AreStreams tenant all (c.loop-pairs.places.items ++ ps) (c.loop-pairs.calls.items ++ cs)) step inv.are in
    let key = c.in-Ok-key_of.key in
    let (lawful, text, whose) = c.in-Ok-key_of.ensures.ok in
    let is : IsCallOf tenant (asked batch) (Push key c.args.now batch.entries) = record { labels = key.labels; lawful = lawful; text = text; is = ap (λ t. Push (record { tenant = t; labels = key.labels }) c.args.now batch.entries) whose } in
    let given = subst (All (λ b. HasNumbers (asked b))) step inv.given in
    record {
      given = All-tail (λ b. HasNumbers (asked b)) batch rest given;
      are = λ ps cs are. rw (c.push_reserved.ensures.items, c.push_back_reserved.ensures.items) (called_more tenant all c.loop-pairs.places.items c.loop-pairs.calls.items (asked batch) (map asked rest) so_far (Push key c.args.now batch.entries) is ps cs are);
      numbers = rw c.push_back_reserved.ensures.items (All-push AreNumbers c.loop-pairs.calls.items (Push key c.args.now batch.entries) inv.numbers (All-head (λ b. HasNumbers (asked b)) batch rest given key));
      places_fit = omega (arith, inv.places_fit, ap length step, c.push_reserved.ensures.len, c.push_reserved.ensures.capacity);
      calls_fit = omega (arith, inv.calls_fit, ap length step, c.push_back_reserved.ensures.len, c.push_back_reserved.ensures.capacity);
    }

pub loop-pairs-preserved : goal.loop-pairs-preserved
loop-pairs-preserved c =
    let inv = c.loop-pairs.invariant in
    let batch = c.in-Some.field-0 in
    let rest = into_iter_items c.next.new.self in
    let asked = asked_push c.args.now in
    let tenant = c.args.tenant.now in
    let all = map asked c.args.batches.items in
    let step : into_iter_items c.loop-pairs.pairs-iterator ≡ batch ∷ rest = c.in-Some.ensures.steps.0 in
    let so_far = subst (λ l. (ps : List (Option LabelFault)) (cs : List Call) → AreStreams tenant (map asked l) ps cs → AreStreams tenant all (c.loop-pairs.places.items ++ ps) (c.loop-pairs.calls.items ++ cs)) step inv.are in
    record {
      given = All-rest (λ b. HasNumbers (asked b)) batch _ _ step inv.given;
      are = λ ps cs are. rw (c.push_reserved-in-Err-Labels.ensures.items, c.in-Err-Labels.field-0-is) (refused_more tenant all c.loop-pairs.places.items c.loop-pairs.calls.items (asked batch) (map asked rest) so_far c.in-Err-Labels.fault (subst (IsUncalled batch.pairs) c.in-Err-Labels.field-0-is c.in-Err-Labels.ensures.cause) ps cs are);
      numbers = inv.numbers;
      places_fit = omega (arith, inv.places_fit, ap length step, c.push_reserved-in-Err-Labels.ensures.len, c.push_reserved-in-Err-Labels.ensures.capacity);
      calls_fit = omega (arith, inv.calls_fit, ap length step);
    }

pub returns-clause-ok : goal.returns-clause-ok
returns-clause-ok c =
    let tenant = c.args.tenant.now in
    let all = map (asked_push c.args.now) c.args.batches.items in
    let none : into_iter_items c.loop-pairs.pairs-iterator ≡ [] = grind (arith, common_steps) in
    streams_all tenant all c.loop-pairs.places.items c.loop-pairs.calls.items
    (subst (λ l. (ps : List (Option LabelFault)) (cs : List Call) → AreStreams tenant (map (asked_push c.args.now) l) ps cs → AreStreams tenant all (c.loop-pairs.places.items ++ ps) (c.loop-pairs.calls.items ++ cs)) none c.loop-pairs.invariant.are)
