-- Slots of shards, by their numbers, over which nothing was written.
use Rattle.std.proofs.Common.{◌≡◌, ◌⊎◌, ℕ, zero, suc, ◌+◌, ◌<◌, List, [], ◌∷◌, ◌++◌, length, map, refl, sym, subst, inl, inr, arith, Some, None, slice_get}
use Rattle.headline.proofs.Common.{Streams, Limits, Ask, History, Sight, Wal, Follow, OpenFault, ShardPlace, place_of, Covers, slots_of, disks, AllFollow, IsOpenedFrom, IsReturned, AreOpenedFrom, AreReturned, AreGood, IsFirstRefused, ShardEnd, LeftAt, AreLeftBy, AreLeftAt, LogsFollow}
use Rattle.openings.proofs.Ordered.{ordered}
use Rattle.ingester.specs.declared.refusal.OpenFault.{OpenFault as Refusal}
use Rattle.ingester.specs.declared.refusal.OpenFault.TheVariants as refusals
use Rattle.ingester.specs.Findings.{IsUnmade}
use Rattle.split.specs.Maps.{map_at}
use Rattle.split.specs.Splits.{pair_at, EachPair, IsAtRest}
use Rattle.split.proofs.Pairs.{KnowsNow, untouched}
use Rattle.headline.specs.Events.{Attempt, IsPairLeftSince, WasRefused, WasOpened}
use Rattle.headline.proofs.Leaving.{covered_left}

module _ {D : Type 0} (sight : D → Sight) (follows : D → Type 0) where
  -- the log that was opened over the slots of shard k
  pub opened_pair : (count capacity k j i : ℕ) (given : List (List D)) (logs : List (Wal D)) (ms : List Streams) → k ≡ j + i → AreOpenedFrom sight follows count capacity j given logs ms → LogsFollow sight follows logs → i < length given
      → (log : Wal D) × Follow follows log × IsOpenedFrom sight follows (place_of k count) capacity (pair_at given i) log (map_at ms i)
  opened_pair count capacity k j i [] logs ms e o f lt = absurd (omega arith)
  opened_pair count capacity k j zero (x ∷ given) (w ∷ logs) (m ∷ ms) e o f lt =
      let at : j ≡ k = omega arith in
      (w, f.0, subst (λ (i : ℕ). IsOpenedFrom sight follows (place_of i count) capacity x w m) at o.0)
  opened_pair count capacity k j (suc i) (x ∷ given) (w ∷ logs) (m ∷ ms) e o f lt = opened_pair count capacity k (j + 1) i given logs ms (omega arith) o.1 f.1 (omega arith)
  opened_pair count capacity k j i given logs ms e o f lt = absurd o

  -- the slots of one shard, as a crash left them
  pub left_pair : (ends : List (ShardEnd D)) (left : List (List D)) (k : ℕ) (end : ShardEnd D) → AreLeftAt sight follows ends left → slice_get ends k ≡ Some end → LeftAt sight follows end (pair_at left k)
  left_pair [] left k end a h = let never : None ≡ Some end = h in absurd (cc)
  left_pair (x ∷ ends) [] k end a h = absurd a
  left_pair (x ∷ ends) (l ∷ left) zero end a h =
      let one : Some x ≡ Some end = h in
      let same : x ≡ end = cc in
      subst (λ (y : ShardEnd D). LeftAt sight follows y l) same a.0
  left_pair (x ∷ ends) (l ∷ left) (suc k) end a h = left_pair ends left k end a.1 h

  -- ---- pairs at rest

  -- all came back, and nothing was written
  pub record AreAtRest (given backs : List (List D)) : Type 0 where
    pub count : length backs ≡ length given
    pub each : EachPair (λ k. IsAtRest sight follows) given backs

  rest_none : AreAtRest [] []
  rest_none = record { count = refl; each = λ s lt. absurd (omega arith) }

  rest_more : (x y : List D) (given backs : List (List D)) → IsAtRest sight follows x y → AreAtRest given backs → AreAtRest (x ∷ given) (y ∷ backs)
  rest_more x y given backs one more = record { count = let n = more.count in omega arith; each = by }
    where
      by : EachPair (λ k. IsAtRest sight follows) (x ∷ given) (y ∷ backs)
      by zero lt = one
      by (suc s) lt = more.each s (omega arith)

  rests_untouched : KnowsNow sight follows → (given : List (List D)) → AreAtRest given given
  rests_untouched now given = record { count = refl; each = λ s lt. untouched sight follows now (pair_at given s) }

  of_returned : (x y : List D) → IsReturned sight follows x y → IsAtRest sight follows x y
  of_returned x y r = record { before = r.before; rests = r.rests }

  rests_returned : (all backs : List (List D)) → AreReturned sight follows all backs → AreAtRest all backs
  rests_returned [] [] r = rest_none
  rests_returned (x ∷ all) (y ∷ backs) r = rest_more x y all backs (of_returned x y r.0) (rests_returned all backs r.1)
  rests_returned all backs r = absurd r

  -- some that are good, and the others
  rests_after : (count k : ℕ) (front front_back all backs : List (List D)) → AreGood sight follows count k front front_back → AreAtRest all backs → AreAtRest (front ++ all) (front_back ++ backs)
  rests_after count k [] [] all backs g r = r
  rests_after count k (x ∷ front) (y ∷ fb) all backs g r = rest_more x y (front ++ all) (fb ++ backs) (of_returned x y g.0.0) (rests_after count (k + 1) front fb all backs g.1 r)
  rests_after count k front fb all backs g r = absurd g

  first_refused : (count k : ℕ) (fault : OpenFault) (all backs : List (List D)) → IsFirstRefused sight follows count k fault all backs → AreAtRest all backs
  first_refused count k fault all backs f =
      let tail = rest_more f.given f.back f.behind f.behind_back (of_returned f.given f.back f.came_back) (rests_returned f.behind f.behind_back f.returned) in
      let whole = rests_after count 0 f.front f.front_back (f.given ∷ f.behind) (f.back ∷ f.behind_back) f.good tail in
      subst (λ l. AreAtRest l backs) (sym f.all_are) (subst (λ l. AreAtRest (f.front ++ f.given ∷ f.behind) l) (sym f.backs_are) whole)

  pub rests_unmade : KnowsNow sight follows → (count : ℕ) (all backs : List (List D)) (fault : Refusal) → IsUnmade sight follows count all backs fault → AreAtRest all backs
  rests_unmade now count all backs (refusals.Refused shard fault) u = first_refused count shard fault all backs u
  rests_unmade now count all backs refusals.Memory (inl same) = subst (AreAtRest all) (sym same) (rests_untouched now all)
  rests_unmade now count all backs refusals.Memory (inr r) = rests_returned all backs r.0
  rests_unmade now count all backs refusals.Thread same = subst (AreAtRest all) (sym same) (rests_untouched now all)

  rests_opened : (whose : ShardPlace) (capacity : ℕ) (given : List D) (log : Wal D) (m : Streams) → IsOpenedFrom sight follows whose capacity given log m → IsAtRest sight follows given (disks log)
  rests_opened whose capacity given log m o =
      let s = ordered sight follows log (disks log) refl in
      record { before = λ f. o.before (s.both f); rests = λ f. s.rests given (o.rests (s.both f)) }

  all_opened : (count capacity j : ℕ) (given : List (List D)) (logs : List (Wal D)) (ms : List Streams) → AreOpenedFrom sight follows count capacity j given logs ms → AreAtRest given (map disks logs)
  all_opened count capacity j [] [] [] o = rest_none
  all_opened count capacity j (x ∷ given) (w ∷ logs) (m ∷ ms) o = rest_more x (disks w) given (map disks logs) (rests_opened (place_of j count) capacity x w m o.0) (all_opened count capacity (j + 1) given logs ms o.1)
  all_opened count capacity j given logs ms o = absurd o

  -- an opening that came to nothing wrote nothing
  pub rests_attempt : KnowsNow sight follows → (a : Attempt D) → WasRefused sight follows a ⊎ WasOpened sight follows a → AreAtRest a.given a.backs
  rests_attempt now a (inl r) = rests_unmade now (length a.given) a.given a.backs r.0 r.1
  rests_attempt now a (inr o) = subst (AreAtRest a.given) (sym o.backs_are) (all_opened (length a.given) o.capacity 0 a.given o.logs o.states o.opened)

  -- ---- what they keep

  module _ (owner : ShardPlace) (limits : Limits) (given back left : List D) (h : History) (doubt : List Ask) (r : IsAtRest sight follows given back) (f : AllFollow follows back) (c : Covers owner limits (slots_of sight given) h doubt) where
    -- as they came back
    pub covers_by : AreLeftBy sight follows back left → Covers owner limits (slots_of sight left) h doubt
    covers_by l =
        let p = r.rests f in
        covered_left sight follows owner limits back left h doubt l (λ a b x y. c a b (p.first.crash a x) (p.second.crash b y))

    -- and at any moment before
    pub covers_since : IsPairLeftSince sight follows given back left → Covers owner limits (slots_of sight left) h doubt
    covers_since l = λ a b x y.
        let p = r.rests f in
        let t = l.crash a b x y in
        c a b (p.first.moments.each a t.0) (p.second.moments.each b t.1)
