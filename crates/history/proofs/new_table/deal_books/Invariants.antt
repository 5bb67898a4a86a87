use Rattle.std.proofs.Common.{◌≡◌, []}
use Rattle.history.proofs.Common.{opener, about_in, fresh_books}
use Rattle.history.proofs.new_table.deal_books.Given as goal

abbrev pub invariant-loop-shard : goal.invariant-loop-shard
invariant-loop-shard l =
    let about = about_in l.initial.seat.me.0.role in
    (l.seat.table_id ≡ l.initial.seat.table_id) × (l.seat.me ≡ (opener about l.shard 0, [])) × (l.books.items ≡ fresh_books l.initial.seat.table_id about l.shard)
