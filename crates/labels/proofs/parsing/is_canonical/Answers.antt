use Rattle.labels.proofs.Parts.{canonical_by}
use Rattle.labels.proofs.parsing.is_canonical.Goals as goal

pub returns : goal.returns
returns c =
    let l = c.in-Some-read_label.ensures.some in
    canonical_by c.args.text.now _ c.in-Some-read_label.name.now l.0 _ _ c.in-Some.ensures l.1 l.2 c.ends_set.ensures
