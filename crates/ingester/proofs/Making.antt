-- Shards that are made of logs, and given back.
use Rattle.std.proofs.Common.{◌≡◌, ℕ, zero, suc, List, [], ◌∷◌, ◌++◌, map, refl, sym, ap, ◌∙◌, subst}
use Rattle.std.specs.Prelude.{Option, Some, None}
use Rattle.wal.specs.Opening.{disks}
use Rattle.shard.specs.Shards.{Sharded}
use Rattle.atomic_table.specs.Seated.{TableId}
use Rattle.history.specs.declared.views.About.{About}
use Rattle.history.specs.Handles.{Booked, fresh_book, fresh_books}
use Rattle.wal.specs.declared.log.Wal.{Wal}
use Rattle.ingester.specs.Makings.{AreBooksIn, AreShardsIn, AreShardsOfLogs, logs_of_shards}
use Rattle.ingester.proofs.Returning.{moved}

-- the books of a table
books_back : (table : TableId) (xs ys : List Booked) → AreBooksIn table (xs ++ ys) → AreBooksIn table ys
books_back table [] ys h = h
books_back table (x ∷ xs) ys h = books_back table xs ys h.1

pub books_behind : (table : TableId) (all xs ys : List Booked) → all ≡ xs ++ ys → AreBooksIn table all → AreBooksIn table ys
books_behind table all xs ys e h = books_back table xs ys (subst (AreBooksIn table) e h)

books_more : (table : TableId) (xs : List Booked) (x : Booked) → AreBooksIn table xs → x.table ≡ table → AreBooksIn table (xs ++ x ∷ [])
books_more table [] x h is = (is, tt)
books_more table (y ∷ xs) x h is = (h.0, books_more table xs x h.1 is)

fresh_in : (table : TableId) (about : About) (n : ℕ) → AreBooksIn table (fresh_books table about n)
fresh_in table about zero = tt
fresh_in table about (suc n) = books_more table (fresh_books table about n) (fresh_book table about n) (fresh_in table about n) refl

pub books_in : (table : TableId) (about : About) (n : ℕ) (books : List Booked) → books ≡ fresh_books table about n → AreBooksIn table books
books_in table about n books are = subst (AreBooksIn table) (sym are) (fresh_in table about n)

module _ {D : Type 0} where
  pub logs_more : (xs : List (Option (Sharded D))) (s : Sharded D) → logs_of_shards (xs ++ Some s ∷ []) ≡ logs_of_shards xs ++ s.log ∷ []
  logs_more [] s = refl
  logs_more (Some x ∷ xs) s = ap (λ l. x.log ∷ l) (logs_more xs s)
  logs_more (None ∷ xs) s = logs_more xs s

  module _ (table : TableId) where
    pub in_front : (xs : List (Option (Sharded D))) (x : Option (Sharded D)) → AreShardsIn table (xs ++ x ∷ []) → AreShardsIn table xs
    in_front [] x h = tt
    in_front (Some y ∷ xs) x h = (h.0, in_front xs x h.1)
    in_front (None ∷ xs) x h = absurd h

    pub in_last : (xs : List (Option (Sharded D))) (x : Option (Sharded D)) → AreShardsIn table (xs ++ x ∷ []) → AreShardsIn table (x ∷ [])
    in_last [] x h = h
    in_last (Some y ∷ xs) x h = in_last xs x h.1
    in_last (None ∷ xs) x h = absurd h

    -- the shards of books of a table
    pub shards_in : (shards : List (Option (Sharded D))) (logs : List (Wal D)) (books : List Booked) → AreShardsOfLogs shards logs books → AreBooksIn table books → AreShardsIn table shards
    shards_in [] logs books h are = tt
    shards_in (None ∷ shards) logs books h are = absurd h
    shards_in (Some s ∷ shards) [] books h are = absurd h
    shards_in (Some s ∷ shards) (l ∷ logs) [] h are = absurd h
    shards_in (Some s ∷ shards) (l ∷ logs) (b ∷ books) h are = (ap (λ (x : Sharded D). x.book.table) h.0 ∙ are.0, shards_in shards logs books h.1 are.1)

  -- the last shard's slots go in front
  pub moved_shard : (xs ys : List (Option (Sharded D))) (s : Sharded D) (bs : List (List D)) → ys ≡ xs ++ Some s ∷ [] → map disks (logs_of_shards xs) ++ (disks s.log ∷ bs) ≡ map disks (logs_of_shards ys) ++ bs
  moved_shard xs ys s bs e = moved disks (logs_of_shards xs) (logs_of_shards ys) s.log bs (ap logs_of_shards e ∙ logs_more xs s)
