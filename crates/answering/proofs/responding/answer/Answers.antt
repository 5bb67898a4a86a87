use Rattle.std.proofs.Common.{inl}
use Rattle.std.proofs.lemmas.Result.{err_from_is_err_and}
use Rattle.answering.proofs.Going.{unsaid}
use Rattle.answering.proofs.responding.answer.Goals as goal

pub returns-in_err-text-clause-answers : goal.returns-in_err-text-clause-answers
returns-in_err-text-clause-answers g c =
    let p = err_from_is_err_and c.from_residual.result c.from_residual.ensures.1 in
    let request = c.args.request.now in
    rw (p.1, p.2) (inl (unsaid (g.S.Calls.gives c.args.service.now) request.time request.tenant.now request.body.now request.route c.args.pass.now))
