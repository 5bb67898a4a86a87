-- The words of books and passes lie within their table.
use Rattle.std.proofs.Common.{ℕ, ◌<◌, arith}
use Rattle.atomic_table.specs.Seated.{TableId}
use Rattle.atomic_table.specs.declared.shared.Seat.{Seat}
use Rattle.history.proofs.Common.{View, IsBook, IsPass}

pub book_fits : (z : TableId) (shard : ℕ) (s : Seat Unit View) → IsBook z shard s → (0 < z.words) × (shard < z.words)
book_fits z shard s h = let w = h.3 in let l = h.2 in ((omega arith), (omega arith))

pub pass_fits : (s : Seat Unit View) (shards word last calls : ℕ) → IsPass s shards word last calls → (0 < s.table_id.words) × (word < s.table_id.words)
pass_fits s shards word last calls h = let w = h.3 in let l = h.4 in let p = h.5 in let o = h.7 in ((omega arith), (omega arith))
