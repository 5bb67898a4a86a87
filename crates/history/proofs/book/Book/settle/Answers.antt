use Rattle.std.proofs.Common.{◌<◌, sym, ap, ◌∙◌, subst}
use Rattle.history.proofs.Common.{kept_back, seated, shelf_in, caller_in}
use Rattle.history.proofs.HandOvers.{gives, sits_as, book_leaves}
use Rattle.history.proofs.Looking.{settles_as}
use Rattle.history.proofs.Fits.{book_fits}
use Rattle.history.proofs.book.Book.settle.Goals as goal

pub split_seat-blank-requires : goal.split_seat-blank-requires
split_seat-blank-requires c =
    let book = c.self.invariant in
    let there = ap (λ t. t.shared.table_id) (sym c.deref.ensures) in
    (book.0 ∙ there, subst (λ z. 0 < z.words) there (book_fits _ _ c.self.inside.seat book).0, gives _ _)

pub join_seat-requires : goal.join_seat-requires
join_seat-requires c =
    let book = c.self.invariant in
    let there = ap (λ t. t.shared.table_id) (sym c.deref.ensures) in
    let guest = c.replace-guest.ensures.value in (
      c.split_seat-blank.ensures.0 ∙ book.0 ∙ there,
      ap (λ s. s.table_id) guest ∙ ap (λ p. p.table) c.pass.view_is ∙ c.requires.table ∙ ap (λ b. b.table) (sym c.self.view_is) ∙ book.0 ∙ there,
      ap (λ s. s.me.1) guest ∙ ap (λ m. m.1) c.pass.invariant.0,
      subst (λ z. 0 < z.words) there (book_fits _ _ c.self.inside.seat book).0,
      sits_as _ _ _ _ (caller_in c.pass.inside.seat.me.0.role) (ap (λ s. s.me.0) guest ∙ ap (λ m. m.0) c.pass.invariant.0),
    )

pub load-requires : goal.load-requires
load-requires c =
    let book = c.self.invariant in
    let there = ap (λ t. t.shared.table_id) (sym c.deref.ensures) in
    let guest = ap (λ s. s.me.0) c.replace-guest.ensures.value ∙ ap (λ m. m.0) c.pass.invariant.0 in
    let own = c.split_seat-blank.ensures.2 ∙ ap (λ m. (kept_back m.0, m.1)) book.4 in (
      c.join_seat.ensures.0 ∙ c.split_seat-blank.ensures.0 ∙ book.0 ∙ there,
      subst (λ z. c.self.inside.shard < z.words) there (book_fits _ _ c.self.inside.seat book).1,
      settles_as _ _ _ (shelf_in c.self.inside.seat.me.0.role) (caller_in c.pass.inside.seat.me.0.role) _ (c.join_seat.ensures.2 ∙ (λ i. (seated (own i).0 (guest i), (own i).1))),
    )

pub split_seat-requires : goal.split_seat-requires
split_seat-requires c =
    let book = c.self.invariant in
    let there = ap (λ t. t.shared.table_id) (sym c.deref.ensures) in
    let guest = ap (λ s. s.me.0) c.replace-guest.ensures.value ∙ ap (λ m. m.0) c.pass.invariant.0 in
    let own = c.split_seat-blank.ensures.2 ∙ ap (λ m. (kept_back m.0, m.1)) book.4 in
    let both = c.load.ensures.2.0 ∙ c.join_seat.ensures.2 ∙ (λ i. (seated (own i).0 (guest i), (own i).1)) in (
      c.load.ensures.0 ∙ c.join_seat.ensures.0 ∙ c.split_seat-blank.ensures.0 ∙ book.0 ∙ there,
      subst (λ z. 0 < z.words) there (book_fits _ _ c.self.inside.seat book).0,
      book_leaves _ _ (shelf_in c.self.inside.seat.me.0.role) (caller_in c.pass.inside.seat.me.0.role) (ap (λ m. m.0) both),
    )
