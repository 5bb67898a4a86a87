use Rattle.std.proofs.Common.{◌<◌, sym, ap, ◌∙◌, subst}
use Rattle.history.specs.Handles.{shelf_in}
use Rattle.history.proofs.Looking.{counts_as}
use Rattle.history.proofs.Fits.{book_fits}
use Rattle.history.proofs.book.Book.len.Goals as goal

pub load-requires : goal.load-requires
load-requires c =
    let book = c.self.invariant in
    let there = ap (λ t. t.shared.table_id) (sym c.deref.ensures) in
    (book.0 ∙ there, subst (λ z. c.self.inside.shard < z.words) there (book_fits _ _ c.self.inside.seat book).1, counts_as _ _ _ (shelf_in c.self.inside.seat.me.0.role) _ book.4 (sym book.1))
