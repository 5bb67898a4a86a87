use Rattle.std.proofs.Common.{refl, inl}
use Rattle.requests.proofs.Names.{no_tenant}
use Rattle.requests.proofs.verdict.tenant_of.Goals as goal

pub returns-in-Err-clause-bad : goal.returns-in-Err-clause-bad
returns-in-Err-clause-bad c = inl (refl, no_tenant c.args.name.now c.in-Err.ensures.cases.0)
