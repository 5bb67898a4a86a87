use Rattle.std.proofs.Common.{◌≡◌, ◌++◌, take, drop}
use Rattle.requests.specs.Fields.{before}
use Rattle.requests.proofs.fields.before.Given as goal

abbrev pub invariant-loop-index : goal.invariant-loop-index
invariant-loop-index l = before l.mark l.bytes ≡ take l.index l.bytes ++ before l.mark (drop l.index l.bytes)
