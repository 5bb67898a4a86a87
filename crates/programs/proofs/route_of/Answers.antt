use Rattle.std.proofs.Common.{inl, inr}
use Rattle.programs.proofs.route_of.Goals as goal

pub returns-in-push-clause-named : goal.returns-in-push-clause-named
returns-in-push-clause-named c = inl c.in-push.is

pub returns-in-read-clause-named : goal.returns-in-read-clause-named
returns-in-read-clause-named c = inr (inl c.in-read.is)

pub returns-in-trim-clause-named : goal.returns-in-trim-clause-named
returns-in-trim-clause-named c = inr (inr c.in-trim.is)

pub returns-in_default-clause-named : goal.returns-in_default-clause-named
returns-in_default-clause-named c (inl is) = c.in_default.not-push is
returns-in_default-clause-named c (inr (inl is)) = c.in_default.not-read is
returns-in_default-clause-named c (inr (inr is)) = c.in_default.not-trim is
