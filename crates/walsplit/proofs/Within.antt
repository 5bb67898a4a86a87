-- A split of slots that are announced is one of the slots themselves.
use Rattle.std.proofs.Common.{◌≡◌, ℕ, zero, suc, List, [], ◌∷◌, length, map, refl, sym, subst, arith}
use Rattle.std.specs.Prelude.{Result, Ok, Err, OnOk}
use Rattle.std.proofs.lemmas.List.{length-map}
use Rattle.accept.specs.Rooms.{Streams}
use Rattle.disk.specs.Sight.{Sight}
use Rattle.segment.specs.ShardPlaces.{ShardPlace, place_of}
use Rattle.wal.specs.Moments.{Pair, HasNoFailure}
use Rattle.wal.specs.Recovery.{Recovers}
use Rattle.wal.specs.Opening.{slots_of, AllFollow}
use Rattle.split.specs.declared.splitting.Slots.{Slots}
use Rattle.split.specs.Maps.{AreApart, IsSplit}
use Rattle.split.specs.Splits.{pair_at, KeepsStreams, IsFirstSegment, IsEmptyPair, HasNotFailed, IsOldShardRead, IsStarted, AreSplit}
use Rattle.walsplit.specs.declared.walsplit_fault.WalsplitFault.{WalsplitFault}
use Rattle.walsplit.specs.Endings.{IsDivided}

-- the slots within others, pair by pair
abbrev pub within : {A B : Type 0} → (A → B) → List (List A) → List (List B)
within inner pairs = map (λ pair. map inner pair) pairs

module _ {A B : Type 0} (inner : A → B) (sight : B → Sight) (follows : B → Type 0) where
  -- a pair shows the same
  shows : (slots : List A) → slots_of (λ a. sight (inner a)) slots ≡ slots_of sight (map inner slots)
  shows [] = refl
  shows (a ∷ []) = refl
  shows (a ∷ b ∷ []) = refl
  shows (a ∷ b ∷ c ∷ more) = refl

  follow : (slots : List A) → AllFollow follows (map inner slots) → AllFollow (λ a. follows (inner a)) slots
  follow [] all = tt
  follow (a ∷ slots) all = (all.0, follow slots all.1)

  -- the pair of a shard
  at_shard : (pairs : List (List A)) (s : ℕ) → map inner (pair_at pairs s) ≡ pair_at (within inner pairs) s
  at_shard [] s = refl
  at_shard (p ∷ pairs) zero = refl
  at_shard (p ∷ pairs) (suc s) = at_shard pairs s

  whole : (given back : List A) → HasNotFailed (λ a. sight (inner a)) (λ a. follows (inner a)) given back → HasNotFailed sight follows (map inner given) (map inner back)
  whole given back none = subst (λ (z : Pair × Pair). HasNoFailure z.0 z.1) (λ i. (shows given i, shows back i)) none

  read_within : (owner : ShardPlace) (given back : List A) (m : Streams) → IsOldShardRead (λ a. sight (inner a)) (λ a. follows (inner a)) owner given back m → IsOldShardRead sight follows owner (map inner given) (map inner back) m
  read_within owner given back m was = record {
    recovers = λ all. subst (λ (p : Pair). Recovers owner p.first.seen p.second.seen m) (shows given) (was.recovers (follow back all));
    keeps = λ all. subst (λ (p : Pair). KeepsStreams owner p m) (shows back) (was.keeps (follow back all));
    not_failed = whole given back was.not_failed;
  }

  started_within : (owner : ShardPlace) (cap : ℕ) (given back : List A) (m : Streams) → IsStarted (λ a. sight (inner a)) (λ a. follows (inner a)) owner cap given back m → IsStarted sight follows owner cap (map inner given) (map inner back) m
  started_within owner cap given back m was = record {
    empty = λ all. subst (λ (p : Pair). IsEmptyPair p) (shows given) (was.empty (follow back all));
    keeps = λ all. subst (λ (p : Pair). KeepsStreams owner p m) (shows back) (was.keeps (follow back all));
    first = λ all. subst (λ (p : Pair). (a b : List ℕ) → p.first.may_leave a → p.second.may_leave b → IsFirstSegment owner a b m) (shows back) (was.first (follow back all));
    small = was.small;
    not_failed = whole given back was.not_failed;
  }

  same_count : (pairs : List (List A)) → length pairs ≡ length (within inner pairs)
  same_count pairs = sym (length-map pairs (λ pair. map inner pair))

  split_within : (cap : ℕ) (old old_back new new_back : List (List A)) → AreSplit (λ a. sight (inner a)) (λ a. follows (inner a)) cap old old_back new new_back
      → AreSplit sight follows cap (within inner old) (within inner old_back) (within inner new) (within inner new_back)
  split_within cap old old_back new new_back are =
      let was = are.division in
      record {
        division = record {
          olds = was.olds;
          news = was.news;
          read = λ s lt. subst (λ (z : ℕ × List B × List B). IsOldShardRead sight follows (place_of s z.0) z.1 z.2 (was.olds s)) (λ i. (same_count old i, at_shard old s i, at_shard old_back s i))
              (read_within (place_of s (length old)) (pair_at old s) (pair_at old_back s) (was.olds s) (was.read s (omega (arith, lt, same_count old))));
          apart = subst (λ (n : ℕ). AreApart n was.olds) (same_count old) was.apart;
          split = subst (λ (z : ℕ × ℕ). IsSplit z.0 z.1 was.olds was.news) (λ i. (same_count old i, same_count new i)) was.split;
        };
        started = λ s lt. subst (λ (z : ℕ × List B × List B). IsStarted sight follows (place_of s z.0) cap z.1 z.2 (was.news s)) (λ i. (same_count new i, at_shard new s i, at_shard new_back s i))
            (started_within (place_of s (length new)) cap (pair_at new s) (pair_at new_back s) (was.news s) (are.started s (omega (arith, lt, same_count new))));
      }

  pub split_of_these : (r : Result (Unit {0}) WalsplitFault) (cap : ℕ) (old new : List (List A)) (olds news : List (List B)) → within inner old ≡ olds → within inner new ≡ news
      → OnOk r ((backs : Slots A) × AreSplit (λ a. sight (inner a)) (λ a. follows (inner a)) cap old backs.old.items new backs.new.items)
      → OnOk r ((old_back : List (List B)) × (new_back : List (List B)) × AreSplit sight follows cap olds old_back news new_back)
  split_of_these (Ok x) cap old new olds news is_old is_new are =
      let old_back = within inner are.0.old.items in
      let new_back = within inner are.0.new.items in
      (old_back, new_back, subst (λ (z : List (List B) × List (List B)). AreSplit sight follows cap z.0 old_back z.1 new_back) (λ i. (is_old i, is_new i)) (split_within cap old are.0.old.items new are.0.new.items are.1))
  split_of_these (Err e) cap old new olds news is_old is_new are = tt

-- with the capacity that the setting gives
pub divided_by : {D : Type 0} (sight : D → Sight) (follows : D → Type 0) (a b m n : ℕ) → a ≡ b → IsDivided sight follows a m n → IsDivided sight follows b m n
divided_by sight follows a b m n is divided = subst (λ (capacity : ℕ). IsDivided sight follows capacity m n) is divided
