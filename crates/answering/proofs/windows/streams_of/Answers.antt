use Rattle.std.proofs.Common.{Ok, Err, map, refl, arith}
use Rattle.std.proofs.lemmas.Result.{err_from_is_err_and}
use Rattle.pushjson.specs.declared.fault.PushFault.TheVariants.{Memory}
use Rattle.answering.specs.Asking.{asked_push}
use Rattle.answering.proofs.Going.{lawful}
use Rattle.answering.proofs.Pushing.{counted}
use Rattle.answering.proofs.windows.streams_of.Goals as goal

pub places_of-requires : goal.places_of-requires
places_of-requires c =
    let (_, (streams, json, times, few, are)) = c.in_ok-batches.ensures.reads in
    lawful c.args.request.now.time c.in_ok-batches.batches.items streams c.requires.clock c.in_ok-batches.ensures.range few are

pub returns-in_err-places-clause-cause : goal.returns-in_err-places-clause-cause
returns-in_err-places-clause-cause c =
    let p = err_from_is_err_and c.from_residual-in_err-places.result c.from_residual-in_err-places.ensures.1 in
    rw (p.1, p.2, c.in_err-places.ensures.cause) (Err Memory, tt, refl)

pub returns-clause-ok : goal.returns-clause-ok
returns-clause-ok c =
    let batches = c.in_ok-batches.batches in
    (map (asked_push c.args.request.now.time) batches.items, (Ok batches, c.in_ok-batches.ensures.reads, refl), c.in_ok-places.ensures.ok)

pub invariant_of-result : goal.invariant_of-result
invariant_of-result c =
    let request = c.args.request.now in
    let calls = c.in_ok-places.calls in
    let same = counted request.tenant.now (map (asked_push request.time) c.in_ok-batches.batches.items) c.in_ok-places.places.items calls.items c.in_ok-places.ensures.ok in
    record { counted = omega (arith, same, calls.ok.0) }
