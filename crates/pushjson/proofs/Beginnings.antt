-- A list of which the first n elements are done.
use Rattle.std.proofs.Common.{◌≡◌, ℕ, suc, ◌<◌, ◌^◌, List, [], ◌∷◌, ◌++◌, length, map, take, drop, get_or, All, length-drop, ap, sym, ◌∙◌, arith}
use Rattle.std.proofs.Math.Seq.{drop-cons, take-suc}
use Rattle.std.proofs.lemmas.List.{map-append, take_all}
use Rattle.std.proofs.lemmas.List.Elements.{All-push, All-map}
use Rattle.pairs.specs.Labels.{Label}
use Rattle.pushjson.specs.Times.{IsTime}
use Rattle.pushjson.specs.Bodies.{Stream, TimedLine, AreTimed, HaveTimes, entry_of_line, batch_of}

-- one more is done
pub parted : {A : Type 0} (all : List A) (n : ℕ) (x : A) (rest : List A) → drop n all ≡ x ∷ rest → (take (suc n) all ≡ take n all ++ x ∷ []) × (drop (suc n) all ≡ rest)
parted all n x rest e =
    let lt : n < length all = omega (arith, length-drop n all, ap length e) in
    let same : get_or all n x ∷ drop (suc n) all ≡ x ∷ rest = sym (drop-cons all n x lt) ∙ e in
    let here : get_or all n x ≡ x = cc in
    (take-suc all n x lt ∙ ap (λ y. take n all ++ y ∷ []) here, cc)

-- each is done
pub whole : {A : Type 0} (all : List A) (n : ℕ) → drop n all ≡ [] → take n all ≡ all
whole all n e = take_all n all (omega (arith, length-drop n all, ap length e))

pub all_more : {A : Type 0} (P : A → Type 0) (all : List A) (n : ℕ) (x : A) (rest : List A) → drop n all ≡ x ∷ rest → All P (take n all) → P x → All P (take (suc n) all)
all_more P all n x rest e h p = let done = (parted all n x rest e).0 in rw done (All-push P (take n all) x h p)

pub map_more : {A B : Type 0} (f : A → B) (all : List A) (n : ℕ) (x : A) (rest : List A) (old new : List B) → drop n all ≡ x ∷ rest → old ≡ map f (take n all) → new ≡ old ++ f x ∷ [] → new ≡ map f (take (suc n) all)
map_more f all n x rest old new e o h = let done = (parted all n x rest e).0 in rw (done, map-append) (h ∙ ap (λ ys. ys ++ f x ∷ []) o)

-- batches have the pairs of the streams that they come from
pub all_batches : (P : List Label → Type 0) (streams : List Stream) → All (λ s. P s.pairs) streams → All (λ b. P b.pairs) (map batch_of streams)
all_batches P streams h = All-map (λ b. P b.pairs) batch_of streams h

low_entries : (values : List TimedLine) → AreTimed values → All (λ e. e.time < 2 ^ 63) (map entry_of_line values)
unfolding IsTime
low_entries values h = All-map (λ e. e.time < 2 ^ 63) entry_of_line values (λ k d w. (h k d w).2)

-- the times of batches are below 2^63
pub low_batches : (streams : List Stream) → HaveTimes streams → All (λ b. All (λ e. e.time < 2 ^ 63) b.entries) (map batch_of streams)
low_batches streams h = All-map (λ b. All (λ e. e.time < 2 ^ 63) b.entries) batch_of streams (λ k d w. low_entries _ (h k d w))
