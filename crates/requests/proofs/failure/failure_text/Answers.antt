use Rattle.std.proofs.Common.{◌∙◌}
use Rattle.requests.proofs.Failures.{failure_is}
use Rattle.requests.proofs.failure.failure_text.Goals as goal

pub returns : goal.returns
returns c = c.failure_bytes.ensures ∙ failure_is c.args.fault
