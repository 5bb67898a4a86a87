use Rattle.std.proofs.Common.{Ok, refl, ap}
use Rattle.std.proofs.lemmas.Result.{err_from_is_err_and}
use Rattle.accept.specs.declared.call.Call.TheVariants as calls
use Rattle.requests.specs.declared.route.Route.TheVariants.{Read}
use Rattle.answering.specs.Asking.{asked_read}
use Rattle.answering.proofs.Going.{uncalled}
use Rattle.answering.proofs.calling.call_of_read.Goals as goal

pub returns-in_err-key-clause-asks : goal.returns-in_err-key-clause-asks
returns-in_err-key-clause-asks c =
    let p = err_from_is_err_and c.from_residual-in_err-key.result c.from_residual-in_err-key.ensures.1 in
    let raw = c.in_ok-pairs.field-0 in
    rw (p.1, p.2) (uncalled Read c.args.tenant.now c.args.body.now (asked_read raw) c.in_err-key.field-0.0 (λ now. (Ok raw, c.in_ok-pairs.ensures.reads, refl)) c.in_err-key.ensures.cause)

pub returns-clause-asks : goal.returns-clause-asks
returns-clause-asks c =
    let raw = c.in_ok-pairs.field-0 in
    let key = c.in_ok-key.key in
    let (lawful, text, whose) = c.in_ok-key.ensures.ok in
    (asked_read raw, (λ now. (Ok raw, c.in_ok-pairs.ensures.reads, refl)), record { labels = key.labels; lawful = lawful; text = text; is = ap (λ t. calls.Read (record { tenant = t; labels = key.labels }) raw.from raw.to) whose })
