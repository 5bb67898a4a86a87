-- Passes of which each makes one call, and what turns leave of a book.
use Rattle.std.specs.Prelude.{◌≡◌, []}
use Rattle.atomic_table.specs.Seated.{TableId}
use Rattle.history.specs.Handles.{Booked, Passed}

-- the pass is of the table, which is of one shard, and waits for no answer
pub record IsIdlePass (table : TableId) (pass : Passed) : Type 0 where
  pub table_is : pass.table ≡ table
  pub one : pass.caller.about.shards ≡ 1
  pub idle : pass.caller.pending ≡ []

-- the book is of the same shard of the same opening
pub record IsSameBook (old new : Booked) : Type 0 where
  pub table : new.table ≡ old.table
  pub about : new.about ≡ old.about
  pub shard : new.shard ≡ old.shard
