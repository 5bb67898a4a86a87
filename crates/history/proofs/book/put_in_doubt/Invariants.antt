use Rattle.std.proofs.Common.{◌≡◌, ◌++◌, [], take}
use Rattle.history.proofs.Common.{Keeps, Nothing, alone, asks_of, doubted_to, shelf_in, with_doubt}
use Rattle.history.proofs.book.put_in_doubt.Given as goal

abbrev pub invariant-loop-ticket : goal.invariant-loop-ticket
invariant-loop-ticket l =
    let shelf = shelf_in l.initial.seat.me.0.role in
    (l.seat.table_id ≡ l.initial.seat.table_id)
    × (l.seat.me ≡ (alone (Keeps (with_doubt shelf (shelf.doubt ++ asks_of (take l.ticket-index l.initial.ticket-items)))) Nothing, []))
    × (l.ticket-items ≡ doubted_to l.ticket-index l.initial.ticket-items)
