use Rattle.std.proofs.Common.{◌≡◌, ◌+◌, ◌++◌, ◌∷◌, [], length, take, true, refl, sym, ap, ◌∙◌, arith, append_assoc, append-nil, slice_index_or, slice_set}
use Rattle.std.proofs.Math.Seq.{take-length}
use Rattle.history.proofs.Common.{Shelf, Nobody, Keeps, Nothing, alone, shard_in, kept_back, seat_alone, in_doubt, announced, doubted, asks_of, doubted_to, shelf_in, booked, with_doubt, ask_in, doubt_in, before_in}
use Rattle.history.proofs.HandOvers.{gives}
use Rattle.history.proofs.Marks.{doubts_as}
use Rattle.history.proofs.Tickets.{doubted_at, doubted_set, asks_more, of_at}
use Rattle.history.proofs.book.put_in_doubt.Goals as goal

pub loop-ticket-init : goal.loop-ticket-init
loop-ticket-init c =
    let shelf = shelf_in c.args.seat.now.me.0.role in
    (refl, c.requires.book ∙ ap (λ d. (alone (Keeps (with_doubt shelf d)) Nothing, [])) (sym (append-nil shelf.doubt)), refl)

pub split_seat-blank-requires : goal.split_seat-blank-requires
split_seat-blank-requires c = (c.loop-ticket.invariant.0 ∙ c.requires.seat, c.requires.words, gives _ _)

pub join_seat-requires : goal.join_seat-requires
join_seat-requires c =
    let inv = c.loop-ticket.invariant in
    let ts = c.args.tickets.now in
    let i = c.loop-ticket.ticket-index in
    let shelf = shelf_in c.args.seat.now.me.0.role in
    let ticket = c.ticket.view_is ∙ ap (λ l. slice_index_or l i c.ticket-item.result) inv.2 ∙ doubted_at ts i c.ticket-item.result in
    let its = of_at (booked c.args.seat.now) ts i c.ticket-item.result c.requires.tickets c.loop-ticket-test.true in
    let shelf' : Shelf = with_doubt shelf (shelf.doubt ++ asks_of (take i ts)) in (
      c.split_seat-blank.ensures.0 ∙ inv.0 ∙ c.requires.seat,
      ap (λ s. s.table_id) c.replace-held.ensures.value ∙ ap (λ t. t.table) ticket ∙ its.0 ∙ c.requires.seat,
      ap (λ s. s.me.1) c.replace-held.ensures.value ∙ ap (λ m. m.1) c.ticket.invariant.0,
      c.requires.words,
      doubts_as _ _ _ _ shelf' Nobody (ask_in c.ticket.inside.seat.me.0.hand) (doubt_in c.ticket.inside.seat.me.0.hand) (before_in c.ticket.inside.seat.me.0.hand)
          (ap (λ m. m.0) c.split_seat-blank.ensures.2 ∙ ap (λ m. kept_back m.0) inv.1)
          (ap (λ s. s.me.0) c.replace-held.ensures.value ∙ ap (λ m. m.0) c.ticket.invariant.0)
          (ap (λ t. shard_in shelf.about t.ask) ticket ∙ its.1),
    )

pub split_seat-requires : goal.split_seat-requires
split_seat-requires c = (c.join_seat.ensures.0 ∙ c.split_seat-blank.ensures.0 ∙ c.loop-ticket.invariant.0 ∙ c.requires.seat, c.requires.words, gives _ _)

pub loop-ticket-preserved : goal.loop-ticket-preserved
loop-ticket-preserved c =
    let inv = c.loop-ticket.invariant in
    let ts = c.args.tickets.now in
    let i = c.loop-ticket.ticket-index in
    let d = c.ticket-item.result in
    let lt = c.loop-ticket-test.true in
    let shelf = shelf_in c.args.seat.now.me.0.role in
    let a = ask_in c.ticket.inside.seat.me.0.hand in
    let ticket = c.ticket.view_is ∙ ap (λ l. slice_index_or l i d) inv.2 ∙ doubted_at ts i d in
    let same : a ≡ (slice_index_or ts i d).ask = ap (λ t. t.ask) ticket in
    let table = c.join_seat.ensures.0 ∙ c.split_seat-blank.ensures.0 ∙ inv.0 in
    let own = c.split_seat-blank.ensures.2 ∙ ap (λ m. (kept_back m.0, m.1)) inv.1 in
    let held = ap (λ s. s.me.0) c.replace-held.ensures.value ∙ ap (λ m. m.0) c.ticket.invariant.0 in
    let joined = c.join_seat.ensures.2 ∙ (λ j. (in_doubt (own j).0 (held j), (own j).1)) in
    let right = c.split_seat.ensures.4 ∙ ap (λ m. (seat_alone m.0, [])) joined in
    let named = c.split_seat.ensures.3 ∙ table ∙ sym (of_at (booked c.args.seat.now) ts i d c.requires.tickets lt).0 in
    let asks : (shelf.doubt ++ asks_of (take i ts)) ++ a ∷ [] ≡ shelf.doubt ++ asks_of (take (i + 1) ts) =
    append_assoc shelf.doubt (asks_of (take i ts)) (a ∷ []) ∙ ap (λ l. shelf.doubt ++ l) (ap (λ b. asks_of (take i ts) ++ b ∷ []) same ∙ sym (asks_more ts i d lt)) in
    let view : announced c.split_seat.result ≡ doubted (slice_index_or ts i d) =
    (λ j. record { table = named j; ask = ask_in (right j).0.hand; doubted = doubt_in (right j).0.hand; before = before_in (right j).0.hand })
    ∙ (λ j. record { table = (slice_index_or ts i d).table; ask = same j; doubted = true; before = (ticket j).before }) in (
      c.split_seat.ensures.0 ∙ table,
      c.split_seat.ensures.2 ∙ ap (λ m. (kept_back m.0, m.1)) joined ∙ ap (λ e. (alone (Keeps (with_doubt shelf e)) Nothing, [])) asks,
      ap (λ t. slice_set c.loop-ticket.ticket-items i t) view ∙ ap (λ l. slice_set l i (doubted (slice_index_or ts i d))) inv.2 ∙ doubted_set ts i d lt,
    )

pub returns-clause-seat : goal.returns-clause-seat
returns-clause-seat c =
    let inv = c.loop-ticket.invariant in
    let ts = c.args.tickets.now in
    let shelf = shelf_in c.args.seat.now.me.0.role in
    let all : c.loop-ticket.ticket-index ≡ length ts = let f = c.loop-ticket-test.false in let e = c.loop-ticket.auto.ticket-index-end in omega arith in
    (inv.0, inv.1 ∙ ap (λ l. (alone (Keeps (with_doubt shelf (shelf.doubt ++ asks_of l))) Nothing, [])) (ap (λ n. take n ts) all ∙ take-length ts))

pub returns-clause-tickets : goal.returns-clause-tickets
returns-clause-tickets c =
    let ts = c.args.tickets.now in
    let all : c.loop-ticket.ticket-index ≡ length ts = let f = c.loop-ticket-test.false in let e = c.loop-ticket.auto.ticket-index-end in omega arith in
    c.loop-ticket.invariant.2 ∙ ap (λ n. doubted_to n ts) all
