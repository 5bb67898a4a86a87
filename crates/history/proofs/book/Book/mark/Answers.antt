use Rattle.std.proofs.Common.{◌<◌, ◌++◌, sym, ap, ◌∙◌, subst}
use Rattle.history.proofs.Common.{is_marked, asks_of, shelf_in, with_doubt}
use Rattle.history.proofs.Marks.{marks_as}
use Rattle.history.proofs.Fits.{book_fits}
use Rattle.history.proofs.book.Book.mark.Goals as goal

pub fetch_add-requires : goal.fetch_add-requires
fetch_add-requires g c =
    let book = c.self.invariant in
    let there = ap (λ t. t.shared.table_id) (sym c.deref.ensures) in
    let shelf = shelf_in c.self.inside.seat.me.0.role in (
      c.put_in_doubt.ensures.seat.0 ∙ book.0 ∙ there,
      subst (λ z. c.self.inside.shard < z.words) there (book_fits _ _ c.self.inside.seat book).1,
      marks_as _ _ _ (with_doubt shelf (shelf.doubt ++ asks_of c.args.tickets.now)) _ c.put_in_doubt.ensures.seat.1 book.1 (ap (λ b. is_marked b.items) c.self.view_is ∙ c.requires.unmarked),
    )
