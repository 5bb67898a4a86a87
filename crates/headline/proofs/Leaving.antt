-- What a crash leaves, and what the next opening finds in it.
use Rattle.std.proofs.Common.{◌≡◌, ℕ, zero, suc, ◌+◌, List, [], ◌∷◌, ◌++◌, length, refl, subst, arith, Some, None, slice_get}
use Rattle.headline.proofs.Common.{Streams, Limits, Ask, History, Sight, Wal, Follow, ShardPlace, place_of, Covers, slots_of, IsOpenedFrom, AreOpenedFrom, ShardEnd, AreLeftBy, LeftAt, AreLeftAt, LogsFollow}

module _ {D : Type 0} (sight : D → Sight) (follows : D → Type 0) where
  -- what is left of slots that keep a history keeps it
  pub covered_left : (owner : ShardPlace) (limits : Limits) (old new : List D) (h : History) (doubt : List Ask) → AreLeftBy sight follows old new → Covers owner limits (slots_of sight old) h doubt → Covers owner limits (slots_of sight new) h doubt
  covered_left owner limits [] [] h doubt l c = c
  covered_left owner limits (a ∷ []) (x ∷ []) h doubt l c = λ p q m n. absurd m
  covered_left owner limits (a ∷ b ∷ []) (x ∷ y ∷ []) h doubt l c = λ p q m n. c p q (l.0.crash p m) (l.1.0.crash q n)
  covered_left owner limits (a ∷ b ∷ d ∷ old) (x ∷ y ∷ z ∷ new) h doubt l c = λ p q m n. absurd m
  covered_left owner limits [] (x ∷ new) h doubt l c = absurd l
  covered_left owner limits (a ∷ old) [] h doubt l c = absurd l
  covered_left owner limits (a ∷ []) (x ∷ y ∷ new) h doubt l c = absurd l.1
  covered_left owner limits (a ∷ b ∷ old) (x ∷ []) h doubt l c = absurd l.1
  covered_left owner limits (a ∷ b ∷ []) (x ∷ y ∷ z ∷ new) h doubt l c = absurd l.1.1
  covered_left owner limits (a ∷ b ∷ d ∷ old) (x ∷ y ∷ []) h doubt l c = absurd l.1.1

  -- the end of a shard, with its slots as a crash left them, and the log that was opened over these
  pub record IsFoundAgain (count capacity k : ℕ) (end : ShardEnd D) (m : Streams) : Type 0 where
    pub left : List D
    pub log : Wal D
    pub crash : LeftAt sight follows end left
    pub opened : IsOpenedFrom sight follows (place_of k count) capacity left log m
    pub follow : Follow follows log

  found_again : (count capacity k j i : ℕ) (ends : List (ShardEnd D)) (left : List (List D)) (logs : List (Wal D)) (ms : List Streams) (end : ShardEnd D) (m : Streams) → k ≡ j + i
      → AreLeftAt sight follows ends left → AreOpenedFrom sight follows count capacity j left logs ms → LogsFollow sight follows logs
      → slice_get ends i ≡ Some end → slice_get ms i ≡ Some m → IsFoundAgain count capacity k end m
  found_again count capacity k j i [] left logs ms end m e a o f h g = let never : None ≡ Some end = h in absurd (cc)
  found_again count capacity k j i (x ∷ ends) [] logs ms end m e a o f h g = absurd a
  found_again count capacity k j zero (x ∷ ends) (l ∷ left) (w ∷ logs) (n ∷ ms) end m e a o f h g =
      let same : x ≡ end = cc in
      let here : n ≡ m = cc in
      let at : j ≡ k = omega arith in
      record {
        left = l;
        log = w;
        crash = subst (λ (y : ShardEnd D). LeftAt sight follows y l) same a.0;
        opened = subst (λ (i : ℕ). IsOpenedFrom sight follows (place_of i count) capacity l w m) at (subst (IsOpenedFrom sight follows (place_of j count) capacity l w) here o.0);
        follow = f.0;
      }
  found_again count capacity k j (suc i) (x ∷ ends) (l ∷ left) (w ∷ logs) (n ∷ ms) end m e a o f h g =
      found_again count capacity k (j + 1) i ends left logs ms end m (omega arith) a.1 o.1 f.1 h g
  found_again count capacity k j i (x ∷ ends) (l ∷ left) logs ms end m e a o f h g = absurd o

  pub found_at : (count capacity k : ℕ) (ends : List (ShardEnd D)) (left : List (List D)) (logs : List (Wal D)) (ms : List Streams) (end : ShardEnd D) (m : Streams)
      → AreLeftAt sight follows ends left → AreOpenedFrom sight follows count capacity 0 left logs ms → LogsFollow sight follows logs
      → slice_get ends k ≡ Some end → slice_get ms k ≡ Some m → IsFoundAgain count capacity k end m
  found_at count capacity k ends left logs ms end m a o f h g = found_again count capacity k 0 k ends left logs ms end m (omega arith) a o f h g

  pub left_length : (ends : List (ShardEnd D)) (left : List (List D)) → AreLeftAt sight follows ends left → length left ≡ length ends
  left_length [] [] a = refl
  left_length (x ∷ ends) (l ∷ left) a = let more = left_length ends left a.1 in omega arith
  left_length ends left a = absurd a

  -- the slots of one shard, as a crash left them
  pub left_at : (ends : List (ShardEnd D)) (front behind : List (List D)) (given : List D) (end : ShardEnd D) → AreLeftAt sight follows ends (front ++ given ∷ behind) → slice_get ends (length front) ≡ Some end → LeftAt sight follows end given
  left_at [] [] behind given end a h = absurd a
  left_at [] (l ∷ front) behind given end a h = absurd a
  left_at (x ∷ ends) [] behind given end a h =
      let one : Some x ≡ Some end = h in
      let same : x ≡ end = cc in
      subst (λ (y : ShardEnd D). LeftAt sight follows y given) same a.0
  left_at (x ∷ ends) (l ∷ front) behind given end a h = left_at ends front behind given end a.1 h

  -- the log that was opened over the slots of shard k, and what it found there
  pub record IsOpenedAt (count capacity k : ℕ) (log : Wal D) (bases : List Streams) : Type 0 where
    pub given : List D
    pub m : Streams
    pub there : slice_get bases k ≡ Some m
    pub opened : IsOpenedFrom sight follows (place_of k count) capacity given log m

  opened_again : (count capacity k j i : ℕ) (given : List (List D)) (logs : List (Wal D)) (ms : List Streams) (log : Wal D) → k ≡ j + i → AreOpenedFrom sight follows count capacity j given logs ms → slice_get logs i ≡ Some log
      → (one : List D) × (m : Streams) × (slice_get ms i ≡ Some m) × IsOpenedFrom sight follows (place_of k count) capacity one log m × (slice_get given i ≡ Some one)
  opened_again count capacity k j i given [] ms log e o h = let never : None ≡ Some log = h in absurd (cc)
  opened_again count capacity k j i [] (w ∷ logs) ms log e o h = absurd o
  opened_again count capacity k j i (x ∷ given) (w ∷ logs) [] log e o h = absurd o
  opened_again count capacity k j zero (x ∷ given) (w ∷ logs) (n ∷ ms) log e o h =
      let same : w ≡ log = cc in
      let at : j ≡ k = omega arith in
      (x, n, λ q. Some n, subst (λ (i : ℕ). IsOpenedFrom sight follows (place_of i count) capacity x log n) at (subst (λ (l : Wal D). IsOpenedFrom sight follows (place_of j count) capacity x l n) same o.0), λ q. Some x)
  opened_again count capacity k j (suc i) (x ∷ given) (w ∷ logs) (n ∷ ms) log e o h = opened_again count capacity k (j + 1) i given logs ms log (omega arith) o.1 h

  pub given_at : (count capacity k : ℕ) (given : List (List D)) (logs : List (Wal D)) (ms : List Streams) (log : Wal D) → AreOpenedFrom sight follows count capacity 0 given logs ms → slice_get logs k ≡ Some log
      → (one : List D) × (m : Streams) × (slice_get ms k ≡ Some m) × IsOpenedFrom sight follows (place_of k count) capacity one log m × (slice_get given k ≡ Some one)
  given_at count capacity k given logs ms log o h = opened_again count capacity k 0 k given logs ms log (omega arith) o h

  pub opened_at : (count capacity k : ℕ) (given : List (List D)) (logs : List (Wal D)) (ms : List Streams) (log : Wal D) → AreOpenedFrom sight follows count capacity 0 given logs ms → slice_get logs k ≡ Some log → IsOpenedAt count capacity k log ms
  opened_at count capacity k given logs ms log o h =
      let t = opened_again count capacity k 0 k given logs ms log (omega arith) o h in
      record { given = t.0; m = t.1; there = t.2; opened = t.3 }
