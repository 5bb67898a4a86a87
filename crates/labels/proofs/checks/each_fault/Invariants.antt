use Rattle.std.proofs.Common.{◌≡◌, map, drop}
use Rattle.pairs.specs.Labels.{label_of}
use Rattle.labels.specs.Faults.{each_fault}
use Rattle.labels.proofs.checks.each_fault.Given as goal

-- the labels seen so far have no fault
abbrev pub invariant-loop-name : goal.invariant-loop-name
invariant-loop-name l = each_fault (map label_of (drop l.name-index l.pairs)) ≡ each_fault (map label_of l.pairs)
