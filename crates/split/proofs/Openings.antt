-- Old shards that are read, one after another.
use Rattle.std.proofs.Common.{◌≡◌, ℕ, ◌+◌, ◌<◌, List, [], ◌∷◌, ◌++◌, length, set, refl, sym, ap, ◌∙◌, subst, arith}
use Rattle.std.specs.FinMap as finite
use Rattle.std.proofs.lemmas.List.{get_or_append_left, get_or_push}
use Rattle.accept.specs.Rooms.{Streams}
use Rattle.disk.specs.Sight.{Sight}
use Rattle.segment.specs.ShardPlaces.{place_of}
use Rattle.wal.specs.declared.fault.OpenFault.{OpenFault}
use Rattle.split.specs.declared.fault.SplitFault.TheVariants.{Old}
use Rattle.split.specs.Maps.{map_at}
use Rattle.split.specs.Splits.{pair_at, EachPair, IsAtRest, IsOldShardRead, IsOldShardRefused, IsCause}
use Rattle.split.specs.Stages.{AreDone, IsOldShardOpened}
use Rattle.split.proofs.Pairs.{KnowsNow, untouched, more_done, stopped, before_stop, at_stop}

module _ {D : Type 0} (sight : D → Sight) (follows : D → Type 0) where
  -- the first n shards were read, and these are their streams
  abbrev pub AreRead : ℕ → List Streams → ℕ → List (List D) → List (List D) → Type 0
  AreRead count maps n xs ys = AreDone (λ s given back. IsOldShardOpened sight follows (place_of s count) given back (map_at maps s)) n xs ys

  pub one_read : (count n : ℕ) (maps more : List Streams) (m : Streams) (xs ys zs : List (List D)) → AreRead count maps n xs ys → length maps ≡ n → more ≡ maps ++ m ∷ [] → zs ≡ set ys n (pair_at zs n)
      → IsOldShardOpened sight follows (place_of n count) (pair_at ys n) (pair_at zs n) m → AreRead count more (n + 1) xs zs
  one_read count n maps more m xs ys zs so_far len is there one =
      more_done (λ s given back. IsOldShardOpened sight follows (place_of s count) given back (map_at maps s)) (λ s given back. IsOldShardOpened sight follows (place_of s count) given back (map_at more s)) n xs ys zs (pair_at zs n) so_far there
      (λ s given back lt opened. subst (IsOldShardOpened sight follows (place_of s count) given back) (sym (ap (λ (l : List Streams). map_at l s) is ∙ get_or_append_left maps (m ∷ []) finite.empty s (omega (arith, lt, len)))) opened)
      (subst (IsOldShardOpened sight follows (place_of n count) (pair_at ys n) (pair_at zs n)) (sym (ap (λ (l : List Streams). map_at l n) is ∙ get_or_push maps m finite.empty n len)) one)

  pub reads_stop : KnowsNow sight follows → (count n : ℕ) (maps : List Streams) (xs ys zs : List (List D)) → AreRead count maps n xs ys → zs ≡ set ys n (pair_at zs n) → IsAtRest sight follows (pair_at ys n) (pair_at zs n) → EachPair (λ _. IsAtRest sight follows) xs zs
  reads_stop now count n maps xs ys zs so_far there one =
      stopped (λ s given back. IsOldShardOpened sight follows (place_of s count) given back (map_at maps s)) (λ _. IsAtRest sight follows) n xs ys zs (pair_at zs n) so_far there (λ s given back opened. opened.rests) one (λ s given. untouched sight follows now given)

  pub read_cause : (count n : ℕ) (maps : List Streams) (xs ys zs : List (List D)) (fault : OpenFault) → AreRead count maps n xs ys → count ≡ length xs → n < length xs → zs ≡ set ys n (pair_at zs n)
      → IsOldShardRefused sight follows (place_of n count) (pair_at ys n) (pair_at zs n) fault → (cap : ℕ) (new : List (List D)) → IsCause sight follows (Old n fault) cap xs zs new new
  read_cause count n maps xs ys zs fault so_far long lt there refused cap new = record {
    within = lt;
    refused = subst (λ (k : ℕ). IsOldShardRefused sight follows (place_of n k) (pair_at xs n) (pair_at zs n) fault) long
        (at_stop (λ s given back. IsOldShardOpened sight follows (place_of s count) given back (map_at maps s)) (λ given back. IsOldShardRefused sight follows (place_of n count) given back fault) n xs ys (pair_at zs n) so_far refused);
    before = λ i under. (
      map_at maps i,
      subst (λ (k : ℕ). IsOldShardRead sight follows (place_of i k) (pair_at xs i) (pair_at zs i) (map_at maps i)) long
          (before_stop (λ s given back. IsOldShardOpened sight follows (place_of s count) given back (map_at maps s)) n xs ys zs (pair_at zs n) so_far there i under).read,
    );
    untouched = refl;
  }
