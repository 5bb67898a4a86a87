use Rattle.std.proofs.lemmas.Result.{err_from_is_err_and}
use Rattle.pushjson.proofs.Trees.{part_fault}
use Rattle.pushjson.specs.Queries.{trim_tree}
use Rattle.pushjson.proofs.shape.trim_texts.Goals as goal

pub returns-in_err-bound-clause-tree : goal.returns-in_err-bound-clause-tree
returns-in_err-bound-clause-tree c =
    let p = err_from_is_err_and c.from_residual.result c.from_residual.ensures.1 in
    rw (p.1, p.2) (part_fault _ _ trim_tree _ _ c.in_err-bound.ensures (λ h s. h _))
