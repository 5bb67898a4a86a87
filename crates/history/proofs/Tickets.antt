-- Tickets that go into doubt, one after another.
use Rattle.std.proofs.Common.{◌≡◌, ℕ, zero, suc, ◌+◌, ◌<◌, List, [], ◌∷◌, ◌++◌, length, take, refl, ap, ◌∙◌, arith, slice_index_or, slice_set}
use Rattle.history.proofs.Common.{shard_in, Booked, Announced, asks_of, doubted, doubted_to, AreOf}

-- those after are as they were
pub doubted_at : (ts : List Announced) (i : ℕ) (d : Announced) → slice_index_or (doubted_to i ts) i d ≡ slice_index_or ts i d
doubted_at [] zero d = refl
doubted_at [] (suc i) d = refl
doubted_at (t ∷ ts) zero d = refl
doubted_at (t ∷ ts) (suc i) d = doubted_at ts i d

set_suc : (ts : List Announced) (i : ℕ) (d : Announced) → i < length ts → slice_set (doubted_to i ts) i (doubted (slice_index_or ts i d)) ≡ doubted_to (suc i) ts
set_suc [] i d h = absurd (omega arith)
set_suc (t ∷ ts) zero d h = refl
set_suc (t ∷ ts) (suc i) d h = ap (λ l. doubted t ∷ l) (set_suc ts i d (omega arith))

pub doubted_set : (ts : List Announced) (i : ℕ) (d : Announced) → i < length ts → slice_set (doubted_to i ts) i (doubted (slice_index_or ts i d)) ≡ doubted_to (i + 1) ts
doubted_set ts i d h = let e : suc i ≡ i + 1 = omega arith in set_suc ts i d h ∙ ap (λ n. doubted_to n ts) e

asks_suc : (ts : List Announced) (i : ℕ) (d : Announced) → i < length ts → asks_of (take (suc i) ts) ≡ asks_of (take i ts) ++ (slice_index_or ts i d).ask ∷ []
asks_suc [] i d h = absurd (omega arith)
asks_suc (t ∷ ts) zero d h = refl
asks_suc (t ∷ ts) (suc i) d h = ap (λ l. t.ask ∷ l) (asks_suc ts i d (omega arith))

pub asks_more : (ts : List Announced) (i : ℕ) (d : Announced) → i < length ts → asks_of (take (i + 1) ts) ≡ asks_of (take i ts) ++ (slice_index_or ts i d).ask ∷ []
asks_more ts i d h = let e : i + 1 ≡ suc i = omega arith in ap (λ n. asks_of (take n ts)) e ∙ asks_suc ts i d h

pub of_at : (book : Booked) (ts : List Announced) (i : ℕ) (d : Announced) → AreOf book ts → i < length ts → ((slice_index_or ts i d).table ≡ book.table) × (shard_in book.about (slice_index_or ts i d).ask ≡ book.shard)
of_at book [] i d h lt = absurd (omega arith)
of_at book (t ∷ ts) zero d h lt = (h.0, h.1)
of_at book (t ∷ ts) (suc i) d h lt = of_at book ts i d h.2 (omega arith)
