use Rattle.std.proofs.Common.{ℕ, ◌∙◌, length, ap, subst}
use Rattle.history.specs.Handles.{about_of, fresh_books}
use Rattle.one_life.specs.Cut.{HaveBegun}
use Rattle.one_life.proofs.Starting.{begun_by}
use Rattle.one_life.proofs.opening.begin.Goals as goal

pub take_both-requires : goal.take_both-requires
take_both-requires c =
    c.in-Ok.books.ok.0 ∙ ap length (c.in-Ok.ensures.books ∙ ap (fresh_books c.in-Ok.history (about_of c.args.images.now 2 c.args.limits c.bytes.result)) c.requires)

pub take_both-requires-in-Ok : goal.take_both-requires-in-Ok
take_both-requires-in-Ok c = c.in-Ok.passes.ok.0 ∙ ap length c.in-Ok.ensures.passes

pub returns-in-Ok : goal.returns-in-Ok
returns-in-Ok c =
    subst (λ (n : ℕ). HaveBegun (about_of c.args.images.now 2 c.args.limits n) (record { history = c.in-Ok.history; books = c.take_both.result; passes = c.take_both-in-Ok.result })) c.bytes.ensures.bytes
    (begun_by c.in-Ok.history c.args.images.now c.args.limits c.bytes.result c.in-Ok.books.items c.in-Ok.passes.items c.take_both.result c.take_both-in-Ok.result c.requires c.in-Ok.ensures.books c.in-Ok.ensures.passes c.take_both.ensures c.take_both-in-Ok.ensures)
