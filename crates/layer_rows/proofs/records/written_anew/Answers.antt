use Rattle.std.proofs.Common.{◌<◌, ◌^◌, length, arith, sym, subst}
use Rattle.std.specs.List.{AllByRecursion}
use Rattle.segment.specs.Versions.{latest}
use Rattle.segment.specs.Spelling.{payload, IsShortRecord}
use Rattle.layer_rows.proofs.WrittenAnew.{segment_anew}
use Rattle.layer_rows.proofs.records.written_anew.Goals as goal

pub put_block-requires-clause-small : goal.put_block-requires-clause-small
put_block-requires-clause-small c =
    let anew = segment_anew _ _ _ _ _ (rw c.in-Ok-Some.field-0-is at c.in-Ok-Some.ensures.found) in
    subst (λ rs. length (payload latest rs) < 2 ^ 32) (sym c.deref.ensures.value) (omega (arith, anew.1, c.if-slot-gt-LONGEST.false))

pub put_block-requires-clause-short : goal.put_block-requires-clause-short
put_block-requires-clause-short c =
    let anew = segment_anew _ _ _ _ _ (rw c.in-Ok-Some.field-0-is at c.in-Ok-Some.ensures.found) in
    subst (AllByRecursion IsShortRecord) (sym c.deref.ensures.value) anew.0
