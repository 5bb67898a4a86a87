use Rattle.labels.proofs.Parts.{no_name, no_opening, no_value, faulty_label, whole_label}
use Rattle.labels.proofs.parsing.read_label.Goals as goal

pub returns-in_err-name-clause-none : goal.returns-in_err-name-clause-none
returns-in_err-name-clause-none c = rw c.from_residual.ensures (no_name c.args.text.now c.in_err-name.ensures)

pub returns-in_err-after-clause-none : goal.returns-in_err-after-clause-none
returns-in_err-after-clause-none c =
    rw c.from_residual-in_err-after.ensures (no_opening _ _ _ c.in_ok-name.ensures.0 c.in_ok-name.ensures.1 c.in_err-after.ensures)

pub returns-in_err-length-clause-none : goal.returns-in_err-length-clause-none
returns-in_err-length-clause-none c =
    rw c.from_residual-in_err-length.ensures (no_value _ _ _ _ c.in_ok-name.ensures.0 c.in_ok-name.ensures.1 c.in_ok-after.ensures c.in_err-length.ensures.none)

pub returns-in-None-clause-some : goal.returns-in-None-clause-some
returns-in-None-clause-some c =
    let v = c.in_ok-length.ensures.some in
    whole_label _ _ _ _ v.0 _ c.in_ok-name.ensures.0 c.in_ok-after.ensures v.3 v.1 (c.in-None.ensures v.0 v.2)

pub returns-in-Some-clause-none : goal.returns-in-Some-clause-none
returns-in-Some-clause-none c =
    let v = c.in_ok-length.ensures.some in
    faulty_label _ _ _ _ v.0 _ _ c.in_ok-name.ensures.0 c.in_ok-name.ensures.1 c.in_ok-after.ensures v.3 (c.in-Some.ensures v.0 v.2)
