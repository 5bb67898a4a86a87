-- What stands where after streams were dealt to the maps of their shards.
use Rattle.std.proofs.Common.{◌≡◌, ◌≢◌, ℕ, zero, suc, ◌+◌, ◌*◌, ◌^◌, ◌<◌, ◌≤◌, ◌==◌, Bool, true, false, cond, List, [], ◌∷◌, length, map, replicate, sum_by, is_some, Option, Some, None, refl, sym, ap, ◌∙◌, subst, ⊎_elim, arith}
use Rattle.std.specs.Prelude.{IsSome, IfSome}
use Rattle.std.specs.List.{fold}
use Rattle.std.specs.Option.{option_or}
use Rattle.std.specs.FinMap as finite
use Rattle.std.proofs.Math.Nat.{mod-lt}
use Rattle.std.proofs.lemmas.List.{length-set, length-replicate, get_or-set_same, get_or-set_other, get_or-replicate}
use Rattle.std.proofs.lemmas.List.Sums.{sum_by-cons}
use Rattle.std.proofs.lemmas.Bool.{cases_eq, cases_lt, eq-eqb, ne_eqb, eqb-true, false≢true}
use Rattle.labels.specs.Keys.{key_cmp, same_key}
use Rattle.labels.specs.Shards.{shard, max_shards}
use Rattle.labels.specs.declared.key.StreamKey.{StreamKey}
use Rattle.accept.specs.declared.image.StreamImage.{StreamImage}
use Rattle.accept.specs.Rooms.{Streams, segment_bytes, stream_room, room}
use Rattle.accept.specs.Histories.{set_stream}
use Rattle.accept.proofs.KeyOrder.{same_key-is}
use Rattle.accept.proofs.Meanings.{get-set_stream}
use Rattle.accept.proofs.RoomLaws.{room-empty, room-set_stream}
use Rattle.segment.specs.Segments.{state_record}
use Rattle.segment.specs.ShardPlaces.{place_of}
use Rattle.segment.specs.Images.{then_record}
use Rattle.segment.specs.Fitting.{FitsStream}
use Rattle.segment.proofs.More.{image-states_of}
use Rattle.split.specs.Maps.{map_at, AreApart, IsSplit, put_in_map, dealt, all_dealt, AreFit, HaveRoomWithin}

abbrev Pairs : Type 0
Pairs = List (StreamKey × StreamImage)

abbrev nothing : Streams
nothing = finite.empty

-- streams put into one map
abbrev put : Streams → StreamKey × StreamImage → Streams
put m e = set_stream m e.0 (Some e.1)

abbrev put_all : Streams → Pairs → Streams
put_all m es = fold put m es

-- the streams of several maps put into one
abbrev merged : Streams → List Streams → Streams
merged m olds = fold (λ all old. put_all all (finite.entries old)) m olds

-- ---- in which map

pub shard_within : (k : StreamKey) (m : ℕ) → 0 < m → shard k m < m
shard_within k m some = mod-lt _ some

module _ (m : ℕ) where
  -- each map has of these streams those whose keys are of its shard
  abbrev AreParts : List Streams → Streams → Type 0
  AreParts maps all = (s : ℕ) (k : StreamKey) → s < m → finite.get (map_at maps s) k ≡ cond (shard k m == s) (finite.get all k) None

  at_shard : (s : ℕ) (k : StreamKey) (e : StreamKey × StreamImage) (o : Option StreamImage) (b : Bool) → shard e.0 m ≡ s → same_key k e.0 ≡ b
      → cond b (Some e.1) (cond (shard k m == s) o None) ≡ cond (shard k m == s) (cond b (Some e.1) o) None
  at_shard s k e o true is same = ap (λ (t : Bool). cond t (Some e.1) None) (sym (eq-eqb (shard k m) s (ap (λ (j : StreamKey). shard j m) (same_key-is k e.0 same) ∙ is)))
  at_shard s k e o false is same = refl

  at_others : (s : ℕ) (k : StreamKey) (e : StreamKey × StreamImage) (o : Option StreamImage) (b : Bool) → shard e.0 m ≢ s → same_key k e.0 ≡ b
      → cond (shard k m == s) o None ≡ cond (shard k m == s) (cond b (Some e.1) o) None
  at_others s k e o true not same =
      let other : (shard k m == s) ≡ false = ne_eqb (shard k m) s (λ (is : shard k m ≡ s). not (ap (λ (j : StreamKey). shard j m) (sym (same_key-is k e.0 same)) ∙ is)) in
      ap (λ (t : Bool). cond t o None) other ∙ ap (λ (t : Bool). cond t (Some e.1) None) (sym other)
  at_others s k e o false not same = refl

  one_given : (maps : List Streams) (all : Streams) (e : StreamKey × StreamImage) → 0 < m → length maps ≡ m → AreParts maps all → AreParts (put_in_map m maps e) (put all e)
  one_given maps all e some len parts s k lt =
      let i = shard e.0 m in
      let after : finite.get (put all e) k ≡ cond (same_key k e.0) (Some e.1) (finite.get all k) = get-set_stream all e.0 (Some e.1) k in
      ⊎_elim
      (λ (is : s ≡ i).
      ap (λ (j : ℕ). finite.get (map_at (put_in_map m maps e) j) k) is
      ∙ ap (λ (x : Streams). finite.get x k) (get_or-set_same maps i (put (map_at maps i) e) finite.empty (omega (arith, shard_within e.0 m some, len)))
      ∙ get-set_stream (map_at maps i) e.0 (Some e.1) k
      ∙ ap (cond (same_key k e.0) (Some e.1)) (parts i k (shard_within e.0 m some))
      ∙ at_shard i k e (finite.get all k) (same_key k e.0) refl refl
      ∙ ap (λ (o : Option StreamImage). cond (shard k m == i) o None) (sym after)
      ∙ ap (λ (j : ℕ). cond (shard k m == j) (finite.get (put all e) k) None) (sym is))
      (λ (not : s ≢ i).
      ap (λ (x : Streams). finite.get x k) (get_or-set_other maps i s (put (map_at maps i) e) finite.empty not)
      ∙ parts s k lt
      ∙ at_others s k e (finite.get all k) (same_key k e.0) (λ (is : i ≡ s). not (sym is)) refl
      ∙ ap (λ (o : Option StreamImage). cond (shard k m == s) o None) (sym after))
      (cases_eq s i)

  pub length-given : (maps : List Streams) (e : StreamKey × StreamImage) → length (put_in_map m maps e) ≡ length maps
  length-given maps e = length-set maps (shard e.0 m) (put (map_at maps (shard e.0 m)) e)

  pub length-given_all : (es : Pairs) (maps : List Streams) → length (fold (put_in_map m) maps es) ≡ length maps
  length-given_all [] maps = refl
  length-given_all (e ∷ es) maps = length-given_all es (put_in_map m maps e) ∙ length-given maps e

  all_given : (es : Pairs) (maps : List Streams) (all : Streams) → 0 < m → length maps ≡ m → AreParts maps all → AreParts (fold (put_in_map m) maps es) (put_all all es)
  all_given [] maps all some len parts = parts
  all_given (e ∷ es) maps all some len parts = all_given es (put_in_map m maps e) (put all e) some (length-given maps e ∙ len) (one_given maps all e some len parts)

  each_dealt : (olds : List Streams) (maps : List Streams) (all : Streams) → 0 < m → length maps ≡ m → AreParts maps all → AreParts (all_dealt m maps olds) (merged all olds)
  each_dealt [] maps all some len parts = parts
  each_dealt (old ∷ olds) maps all some len parts =
      each_dealt olds (dealt m maps old) (put_all all (finite.entries old)) some (length-given_all (finite.entries old) maps ∙ len) (all_given (finite.entries old) maps all some len parts)

  none_there : (s : ℕ) (k : StreamKey) (b : Bool) → s < m → finite.get (map_at (replicate m nothing) s) k ≡ cond b (finite.get nothing k) None
  none_there s k b lt =
      ap (λ (x : Streams). finite.get x k) (get_or-replicate m s finite.empty finite.empty lt)
      ∙ elim b as (λ (t : Bool). finite.get nothing k ≡ cond t (finite.get nothing k) None) [ true ↦ refl | false ↦ finite.get-empty key_cmp k ]

  pub from_none : (olds : List Streams) → 0 < m → AreParts (all_dealt m (replicate m finite.empty) olds) (merged finite.empty olds)
  from_none olds some = each_dealt olds (replicate m finite.empty) finite.empty some (length-replicate m finite.empty) (λ s k lt. none_there s k (shard k m == s) lt)

-- ---- of which map

or_by : (b : Bool) (x y : Option StreamImage) (v : StreamImage) → cond b (Some v) (option_or x y) ≡ option_or (cond b (Some v) x) y
or_by true x y v = refl
or_by false x y v = refl

-- what was put after others comes first
put_over : (es : Pairs) (all base over : Streams) (k : StreamKey) → ((q : StreamKey) → finite.get all q ≡ option_or (finite.get over q) (finite.get base q)) → finite.get (put_all all es) k ≡ option_or (finite.get (put_all over es) k) (finite.get base k)
put_over [] all base over k is = is k
put_over (e ∷ es) all base over k is = put_over es (put all e) base (put over e) k
    (λ q. get-set_stream all e.0 (Some e.1) q ∙ ap (cond (same_key q e.0) (Some e.1)) (is q) ∙ or_by (same_key q e.0) (finite.get over q) (finite.get base q) e.1 ∙ ap (λ (o : Option StreamImage). option_or o (finite.get base q)) (sym (get-set_stream over e.0 (Some e.1) q)))

-- the streams of a map, put into none, are those of the map
put_records : (es : Pairs) (m : Streams) → put_all m es ≡ fold then_record m (map state_record es)
put_records [] m = refl
put_records (e ∷ es) m = put_records es (put m e)

pub one_merged : (all old : Streams) (k : StreamKey) → finite.get (put_all all (finite.entries old)) k ≡ option_or (finite.get old k) (finite.get all k)
one_merged all old k =
    put_over (finite.entries old) all all finite.empty k (λ q. ap (λ (o : Option StreamImage). option_or o (finite.get all q)) (sym (finite.get-empty key_cmp q)))
    ∙ ap (λ (x : Streams). option_or (finite.get x k) (finite.get all k)) (put_records (finite.entries old) finite.empty ∙ image-states_of old)

none_of : (o : Option StreamImage) → (IsSome o → ⊥) → o ≡ None
none_of None not = refl
none_of (Some x) not = absurd (not refl)

-- a key that stands in one map alone
pub found : (olds : List Streams) (all : Streams) (k : StreamKey) (t : ℕ) → ((s : ℕ) → IsSome (finite.get (map_at olds s) k) → s ≡ t) → finite.get (merged all olds) k ≡ option_or (finite.get (map_at olds t) k) (finite.get all k)
found [] all k t alone = ap (λ (o : Option StreamImage). option_or o (finite.get all k)) (sym (finite.get-empty key_cmp k))
found (old ∷ olds) all k zero alone =
    let later : finite.get (map_at olds 0) k ≡ None = none_of _ (λ some. omega (arith, alone 1 some)) in
    found olds (put_all all (finite.entries old)) k 0 (λ s some. absurd (omega (arith, alone (suc s) some)))
    ∙ ap (λ (o : Option StreamImage). option_or o (finite.get (put_all all (finite.entries old)) k)) later
    ∙ one_merged all old k
found (old ∷ olds) all k (suc t) alone =
    let not_here : finite.get old k ≡ None = none_of _ (λ some. omega (arith, alone 0 some)) in
    found olds (put_all all (finite.entries old)) k t (λ s some. omega (arith, alone (suc s) some))
    ∙ ap (option_or (finite.get (map_at olds t) k)) (one_merged all old k ∙ ap (λ (o : Option StreamImage). option_or o (finite.get all k)) not_here)

or_none : (o : Option StreamImage) → option_or o None ≡ o
or_none None = refl
or_none (Some x) = refl

past_none : (olds : List Streams) (s : ℕ) (k : StreamKey) → length olds ≤ s → finite.get (map_at olds s) k ≡ None
past_none [] s k le = finite.get-empty key_cmp k
past_none (old ∷ olds) zero k le = absurd (omega (arith, le))
past_none (old ∷ olds) (suc s) k le = past_none olds s k (omega (arith, le))

pub is_split : (m : ℕ) (olds news : List Streams) → 0 < m → AreApart (length olds) (map_at olds) → news ≡ all_dealt m (replicate m finite.empty) olds → IsSplit (length olds) m (map_at olds) (map_at news)
is_split m olds news some apart is s k lt =
    ap (λ (l : List Streams). finite.get (map_at l s) k) is
    ∙ from_none m olds some s k lt
    ∙ ap (λ (o : Option StreamImage). cond (shard k m == s) o None)
    (found olds finite.empty k (shard k (length olds)) alone ∙ ap (option_or (finite.get (map_at olds (shard k (length olds))) k)) (finite.get-empty key_cmp k) ∙ or_none _)
  where
    alone : (i : ℕ) → IsSome (finite.get (map_at olds i) k) → i ≡ shard k (length olds)
    alone i there = ⊎_elim
        (λ (under : i < length olds). sym (apart i k under there))
        (λ (over : length olds ≤ i). absurd (false≢true (ap is_some (sym (past_none olds i k over)) ∙ there)))
        (cases_lt i (length olds))

-- ---- how much room

module _ (m : ℕ) where
  one_more : (maps : List Streams) (e : StreamKey × StreamImage) (s : ℕ) → 0 < m → length maps ≡ m → room (map_at (put_in_map m maps e) s) ≤ room (map_at maps s) + stream_room e
  one_more maps e s some len =
      let i = shard e.0 m in
      ⊎_elim
      (λ (is : s ≡ i). subst (λ (j : ℕ). room (map_at (put_in_map m maps e) j) ≤ room (map_at maps j) + stream_room e) (sym is)
      (subst (λ (x : Streams). room x ≤ room (map_at maps i) + stream_room e) (sym (get_or-set_same maps i (put (map_at maps i) e) finite.empty (omega (arith, shard_within e.0 m some, len))))
      (omega (arith, room-set_stream (map_at maps i) e.0 (Some e.1)))))
      (λ (not : s ≢ i). subst (λ (x : Streams). room x ≤ room (map_at maps s) + stream_room e) (sym (get_or-set_other maps i s (put (map_at maps i) e) finite.empty not)) (omega arith))
      (cases_eq s i)

  some_more : (es : Pairs) (maps : List Streams) (s : ℕ) → 0 < m → length maps ≡ m → room (map_at (fold (put_in_map m) maps es) s) ≤ room (map_at maps s) + sum_by stream_room es
  some_more [] maps s some len = omega arith
  some_more (e ∷ es) maps s some len = omega (arith, some_more es (put_in_map m maps e) s some (length-given m maps e ∙ len), one_more maps e s some len, sum_by-cons stream_room e es)

  all_more : (olds : List Streams) (maps : List Streams) (s bound : ℕ) → 0 < m → length maps ≡ m → HaveRoomWithin bound (length olds) olds → room (map_at (all_dealt m maps olds) s) ≤ room (map_at maps s) + length olds * bound
  all_more [] maps s bound some len small = omega arith
  all_more (old ∷ olds) maps s bound some len small =
      omega (arith, all_more olds (dealt m maps old) s bound some (length-given_all m (finite.entries old) maps ∙ len) (λ t lt. small (suc t) (omega (arith, lt))), some_more (finite.entries old) maps s some len, small 0 (omega arith))

  pub rooms_within : (olds news : List Streams) → 0 < m → length olds ≤ max_shards → HaveRoomWithin (2 ^ 31 + segment_bytes) (length olds) olds → news ≡ all_dealt m (replicate m finite.empty) olds → HaveRoomWithin (2 ^ 40) m news
  rooms_within olds news some few small is s lt =
      let more = all_more olds (replicate m finite.empty) s (2 ^ 31 + segment_bytes) some (length-replicate m finite.empty) small in
      let none : room (map_at (replicate m finite.empty) s) ≡ segment_bytes = ap room (get_or-replicate m s finite.empty finite.empty lt) ∙ room-empty in
      let here : room (map_at news s) ≡ room (map_at (all_dealt m (replicate m finite.empty) olds) s) = ap (λ (l : List Streams). room (map_at l s)) is in
      omega (arith, more, none, here, few)

-- ---- which streams

pub apart_by_fit : (n : ℕ) (olds : List Streams) → AreFit n olds → AreApart n (map_at olds)
apart_by_fit n olds fit s k lt there = here (finite.get (map_at olds s) k) (fit s lt k) there
  where
    here : (o : Option StreamImage) → IfSome o (FitsStream (place_of s n) k) → IsSome o → shard k n ≡ s
    here None fits some = absurd (false≢true some)
    here (Some x) fits some = fits.here

moved : (n m i s : ℕ) (k : StreamKey) (b : Bool) (o : Option StreamImage) → (shard k m == s) ≡ b → IfSome o (FitsStream (place_of i n) k) → IfSome (cond b o None) (FitsStream (place_of s m) k)
moved n m i s k true None is fits = tt
moved n m i s k true (Some x) is fits = record { here = eqb-true (shard k m) s is; last = fits.last; each = fits.each; whole = fits.whole }
moved n m i s k false o is fits = tt

pub fit_by_split : (n m : ℕ) (olds news : List Streams) → 0 < n → AreFit n olds → IsSplit n m (map_at olds) (map_at news) → AreFit m news
fit_by_split n m olds news some fit split s lt k =
    subst (λ (o : Option StreamImage). IfSome o (FitsStream (place_of s m) k)) (sym (split s k lt))
    (moved n m (shard k n) s k (shard k m == s) (finite.get (map_at olds (shard k n)) k) refl (fit (shard k n) (shard_within k n some) k))
