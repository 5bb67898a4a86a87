use Rattle.std.proofs.Common.{◌<◌, sym, ap, ◌∙◌, subst}
use Rattle.history.proofs.Common.{Me, View, shard_in, HaveSteps, taken, Booked, Announced, ask_in, doubt_in, before_in, shelf_in}
use Rattle.history.proofs.HandOvers.{gives, takes}
use Rattle.history.proofs.Books.{commits_as}
use Rattle.history.proofs.Fits.{book_fits}
use Rattle.history.proofs.book.Book.commit_at.Goals as goal

pub join_seat-requires : goal.join_seat-requires
join_seat-requires g c =
    let book = c.self.invariant in
    let there = ap (λ t. t.shared.table_id) (sym c.deref.ensures) in (
      book.0 ∙ there,
      ap (λ t. t.table) c.ticket.view_is ∙ c.requires.table ∙ ap (λ b. b.table) (sym c.self.view_is) ∙ book.0 ∙ there,
      ap (λ m. m.1) c.ticket.invariant.0,
      subst (λ z. 0 < z.words) there (book_fits _ _ c.self.inside.seat book).0,
      takes _ _ _ _,
    )

pub fetch_add-requires : goal.fetch_add-requires
fetch_add-requires g c =
    let book = c.self.invariant in
    let there = ap (λ t. t.shared.table_id) (sym c.deref.ensures) in
    let here = (λ i. shard_in (c.self.view_is i).about (c.ticket.view_is i).ask) ∙ c.requires.shard ∙ ap (λ b. b.shard) (sym c.self.view_is) ∙ book.1 in (
      c.join_seat.ensures.0 ∙ book.0 ∙ there,
      subst (λ z. c.self.inside.shard < z.words) there (book_fits _ _ c.self.inside.seat book).1,
      commits_as _ _ _ (shelf_in c.self.inside.seat.me.0.role) (ask_in c.ticket.inside.seat.me.0.hand) (doubt_in c.ticket.inside.seat.me.0.hand) (before_in c.ticket.inside.seat.me.0.hand) _ _
          (◌∙◌ {A = Me Unit View} {b = (taken c.self.inside.seat.me.0 c.ticket.inside.seat.me.0, c.self.inside.seat.me.1)} c.join_seat.ensures.2 (λ i. (taken (book.4 i).0 (c.ticket.invariant.0 i).0, (book.4 i).1))) book.5 book.1 here
          (subst (λ (z : Announced × Booked). HaveSteps z.0.before z.1.items) (λ i. (sym c.ticket.view_is i, sym c.self.view_is i)) c.requires.order),
    )

pub split_seat-requires : goal.split_seat-requires
split_seat-requires g c =
    let book = c.self.invariant in
    let there = ap (λ t. t.shared.table_id) (sym c.deref.ensures) in
    (c.fetch_add.ensures.0 ∙ c.join_seat.ensures.0 ∙ book.0 ∙ there, subst (λ z. 0 < z.words) there (book_fits _ _ c.self.inside.seat book).0, gives _ _)
