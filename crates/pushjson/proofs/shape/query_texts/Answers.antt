use Rattle.std.proofs.lemmas.Result.{err_from_is_err_and}
use Rattle.pushjson.proofs.Trees.{part_fault}
use Rattle.pushjson.specs.Queries.{query_tree}
use Rattle.pushjson.proofs.shape.query_texts.Goals as goal

pub returns-in_err-from-clause-tree : goal.returns-in_err-from-clause-tree
returns-in_err-from-clause-tree c =
    let p = err_from_is_err_and c.from_residual.result c.from_residual.ensures.1 in
    rw (p.1, p.2) (part_fault _ _ query_tree _ _ c.in_err-from.ensures (λ h s. h _))
