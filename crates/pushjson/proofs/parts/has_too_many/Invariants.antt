use Rattle.std.proofs.Common.{◌≡◌, ◌≤◌, length}
use Rattle.json.specs.Lex.{tokens}
use Rattle.pushjson.specs.Parts.{no_parts, goes_over}
use Rattle.pushjson.proofs.parts.has_too_many.Given as goal

abbrev pub invariant-loop-token : goal.invariant-loop-token
invariant-loop-token l = record {
  same : goes_over no_parts (tokens l.text) ≡ goes_over l.count l.reader;
  objects : l.count.objects ≤ 30001;
  elements : l.count.elements ≤ 50001;
}

abbrev pub decreases-loop-token : goal.decreases-loop-token
decreases-loop-token l = length l.reader
