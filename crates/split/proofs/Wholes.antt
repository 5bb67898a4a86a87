-- What the stages of a split come to.
use Rattle.std.proofs.Common.{◌≡◌, ◌≢◌, ℕ, ◌<◌, List, length, set, refl, sym, ◌∙◌, subst, arith}
use Rattle.std.specs.Prelude.{Result, Ok, Err, OnOk, IfErr}
use Rattle.accept.specs.Rooms.{Streams}
use Rattle.disk.specs.Sight.{Sight}
use Rattle.segment.specs.ShardPlaces.{place_of}
use Rattle.wal.specs.Opening.{slots_of, AllFollow}
use Rattle.split.specs.declared.fault.SplitFault.{SplitFault}
use Rattle.split.specs.declared.fault.SplitFault.TheVariants.{NotEmpty, NoRoom, Device, Memory}
use Rattle.split.specs.Maps.{map_at, IsSplit, AreFit, HaveRoomWithin, IsFirstAbove}
use Rattle.split.specs.Splits.{pair_at, EachPair, IsEmptyPair, HasNotFailed, HaveFollowed, IsOldShardRead, Division, AreSplit, AreOldRead, IsCause}
use Rattle.split.specs.Stages.{AreDone, IsTested, IsShardBegun, IsStartFault, found_more, broken, short, IsStartedInPart}
use Rattle.split.proofs.Dealt.{apart_by_fit}
use Rattle.split.proofs.Pairs.{stopped}
use Rattle.split.proofs.Logs.{none_failed, failed_then}

apart_full : (s slot : ℕ) → NotEmpty s slot ≡ Memory → ⊥
apart_full s slot e = cc

apart_broken : (s : ℕ) → Device s ≡ Memory → ⊥
apart_broken s e = cc

module _ {D : Type 0} (sight : D → Sight) (follows : D → Type 0) where
  -- the maps of old shards that were read, and of new ones
  abbrev AreDivided : ℕ → ℕ → List Streams → List Streams → List (List D) → List (List D) → Type 0
  AreDivided n m olds news old old_back =
      EachPair (λ s given back. IsOldShardRead sight follows (place_of s n) given back (map_at olds s)) old old_back × AreFit n olds × IsSplit n m (map_at olds) (map_at news)

  abbrev divided : (m : ℕ) (olds news : List Streams) (old old_back : List (List D)) → AreDivided (length old) m olds news old old_back → Division sight follows m old old_back
  divided m olds news old old_back are = record { olds = map_at olds; news = map_at news; read = are.0; apart = apart_by_fit (length old) olds are.1; split = are.2 }

  -- what the slots of old shards hold, by the number of them
  pub old_read : (n : ℕ) (olds : List Streams) (old old_back : List (List D)) → n ≡ length old → EachPair (λ s given back. IsOldShardRead sight follows (place_of s n) given back (map_at olds s)) old old_back → AreOldRead sight follows old old_back
  old_read n olds old old_back long read s lt = (map_at olds s, subst (λ (k : ℕ). IsOldShardRead sight follows (place_of s k) (pair_at old s) (pair_at old_back s) (map_at olds s)) long (read s lt))

  pub no_room : (n cap s : ℕ) (olds news : List Streams) (old old_back new mid : List (List D)) → n ≡ length old → length news ≡ length new → AreDivided n (length new) olds news old old_back → EachPair (λ _. IsTested sight follows) new mid → IsFirstAbove cap s news
      → IsCause sight follows (NoRoom s) cap old old_back new mid
  no_room n cap s olds news old old_back new mid long len are tested above = record {
    division = divided (length new) olds news old old_back (subst (λ (k : ℕ). AreDivided k (length new) olds news old old_back) long are);
    within = omega (arith, above.within, len);
    full = above.full;
    before = above.before;
    empty = λ i lt. (tested i lt).empty;
    rests = λ i lt. (tested i lt).rests;
  }

  pub finished : (n m cap : ℕ) (olds news : List Streams) (old old_back new mid back : List (List D)) → n ≡ length old → m ≡ length new → length mid ≡ length new → AreDivided n m olds news old old_back → HaveRoomWithin cap m news
      → EachPair (λ _. IsTested sight follows) new mid → EachPair (λ s given made. IsShardBegun sight follows (place_of s m) given made (map_at news s)) mid back → AreSplit sight follows cap old old_back new back
  finished n m cap olds news old old_back new mid back long many len are small tested begun = record {
    division = divided (length new) olds news old old_back (subst (λ (k : ℕ). AreDivided k (length new) olds news old old_back) long (subst (λ (k : ℕ). AreDivided n k olds news old old_back) many are));
    started = λ s lt.
        let test = tested s lt in
        let start = subst (λ (k : ℕ). IsShardBegun sight follows (place_of s k) (pair_at mid s) (pair_at back s) (map_at news s)) many (begun s (omega (arith, lt, len))) in
        record {
          empty = λ all. test.empty (start.before all);
          keeps = start.keeps;
          first = start.first;
          small = small s (omega (arith, lt, many));
          not_failed = none_failed (slots_of sight (pair_at new s)) (slots_of sight (pair_at mid s)) (slots_of sight (pair_at back s)) test.not_failed start.not_failed;
        };
  }

  pub finished_if_ok : (r : Result (Unit {0}) SplitFault) (n m cap : ℕ) (olds news : List Streams) (old old_back new mid back : List (List D)) → n ≡ length old → m ≡ length new → length mid ≡ length new → AreDivided n m olds news old old_back → HaveRoomWithin cap m news
      → EachPair (λ _. IsTested sight follows) new mid → OnOk r (EachPair (λ s given made. IsShardBegun sight follows (place_of s m) given made (map_at news s)) mid back) → OnOk r (AreSplit sight follows cap old old_back new back)
  finished_if_ok (Ok x) n m cap olds news old old_back new mid back long many len are small tested begun = finished n m cap olds news old old_back new mid back long many len are small tested begun
  finished_if_ok (Err e) n m cap olds news old old_back new mid back long many len are small tested begun = tt

  still_empty : (given back : List D) → IsTested sight follows given back → AllFollow follows back → IsEmptyPair (slots_of sight back)
  still_empty given back test all =
      let rested = test.rests.rests all in
      let none = test.empty all in
      (rested.first.same ∙ none.0, rested.second.same ∙ none.1)

  start_cause : (s cap : ℕ) (fault : SplitFault) (old old_back new mid back : List (List D)) → s < length new → length mid ≡ length new → AreOldRead sight follows old old_back → EachPair (λ _. IsTested sight follows) new mid → EachPair (λ _. HaveFollowed sight follows) mid back
      → IsStartFault sight follows s (pair_at mid s) (pair_at back s) fault → EachPair (λ i given made. i ≢ s → HasNotFailed sight follows given made) mid back → (fault ≡ Memory → EachPair (λ _. HasNotFailed sight follows) mid back) → IsCause sight follows fault cap old old_back new back
  start_cause s cap fault old old_back new mid back lt len read tested before (found_more slot is not) others well =
      let never : AllFollow follows (pair_at back s) → ⊥ = λ all. not all (still_empty (pair_at new s) (pair_at mid s) (tested s lt) (before s (omega (arith, lt, len)) all)) in
      subst (λ (e : SplitFault). IsCause sight follows e cap old old_back new back) (sym is) (record {
        read = read;
        within = lt;
        full = λ all. absurd (never all);
        before = λ i under all. (tested i (omega (arith, under, lt))).empty (before i (omega (arith, under, lt, len)) all);
        rests = λ all. absurd (never all);
      })
  start_cause s cap fault old old_back new mid back lt len read tested before (broken is failed) others well =
      subst (λ (e : SplitFault). IsCause sight follows e cap old old_back new back) (sym is) (record {
        read = read;
        within = lt;
        failed = failed_then (slots_of sight (pair_at new s)) (slots_of sight (pair_at mid s)) (slots_of sight (pair_at back s)) (tested s lt).not_failed failed;
        before = λ i under all. (tested i (omega (arith, under, lt))).empty (before i (omega (arith, under, lt, len)) all);
        others = λ i under not. none_failed (slots_of sight (pair_at new i)) (slots_of sight (pair_at mid i)) (slots_of sight (pair_at back i)) (tested i under).not_failed (others i (omega (arith, under, len)) not);
      })
  start_cause s cap fault old old_back new mid back lt len read tested before (short is never) others well = subst (λ (e : SplitFault). IsCause sight follows e cap old old_back new back) (sym is) ((λ i under. (read i under).1.not_failed), λ i under. none_failed (slots_of sight (pair_at new i)) (slots_of sight (pair_at mid i)) (slots_of sight (pair_at back i)) (tested i under).not_failed (well is i (omega (arith, under, len))))

  pub cause_if_err : (r : Result (Unit {0}) SplitFault) (m cap : ℕ) (old old_back new mid back : List (List D)) → m ≡ length new → length mid ≡ length new → AreOldRead sight follows old old_back → EachPair (λ _. IsTested sight follows) new mid → EachPair (λ _. HaveFollowed sight follows) mid back
      → IfErr r (λ fault. IsStartedInPart sight follows m mid back fault) → IfErr r (λ fault. IsCause sight follows fault cap old old_back new back)
  cause_if_err (Ok x) m cap old old_back new mid back many len read tested before h = tt
  cause_if_err (Err e) m cap old old_back new mid back many len read tested before h = start_cause h.shard cap e old old_back new mid back (omega (arith, h.within, many)) len read tested before h.why h.others h.memory

  -- want of memory, and nothing else
  unfailed : (n : ℕ) (given back : List D) (fault : SplitFault) → IsStartFault sight follows n given back fault → fault ≡ Memory → HasNotFailed sight follows given back
  unfailed n given back fault (found_more slot is not) short_is = absurd (apart_full n slot (sym is ∙ short_is))
  unfailed n given back fault (broken is failed) short_is = absurd (apart_broken n (sym is ∙ short_is))
  unfailed n given back fault (short is never) short_is = never

  -- no device of another shard has failed
  pub starts_others : (n m : ℕ) (news : List Streams) (xs ys zs : List (List D)) → AreDone (λ s given made. IsShardBegun sight follows (place_of s m) given made (map_at news s)) n xs ys → zs ≡ set ys n (pair_at zs n) → EachPair (λ s given back. s ≢ n → HasNotFailed sight follows given back) xs zs
  starts_others n m news xs ys zs so_far there =
      stopped (λ s given made. IsShardBegun sight follows (place_of s m) given made (map_at news s)) (λ s given back. s ≢ n → HasNotFailed sight follows given back) n xs ys zs (pair_at zs n) so_far there (λ s given made begun not. begun.not_failed) (λ not. absurd (not refl)) (λ s given not. (refl, refl))

  pub starts_stop : (n m : ℕ) (news : List Streams) (fault : SplitFault) (xs ys zs : List (List D)) → AreDone (λ s given made. IsShardBegun sight follows (place_of s m) given made (map_at news s)) n xs ys → zs ≡ set ys n (pair_at zs n)
      → IsStartFault sight follows n (pair_at ys n) (pair_at zs n) fault → fault ≡ Memory → EachPair (λ _. HasNotFailed sight follows) xs zs
  starts_stop n m news fault xs ys zs so_far there why is =
      stopped (λ s given made. IsShardBegun sight follows (place_of s m) given made (map_at news s)) (λ _. HasNotFailed sight follows) n xs ys zs (pair_at zs n) so_far there (λ s given made begun. begun.not_failed) (unfailed n (pair_at ys n) (pair_at zs n) fault why is) (λ s given. (refl, refl))
