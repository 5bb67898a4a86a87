-- What holds of each item of a list: by its place or by `All`, after a pop, and after a push; and of no value at all.
use Rattle.std.proofs.Common.{◌≡◌, ℕ, List, [], ◌∷◌, ◌++◌, Bool, true, false, if◌then◌else◌, Option, Some, Result, Ok, Err, OnOk, subst, get_or, slice_get, All}
use Rattle.std.proofs.lemmas.List.Elements.{All-get_or, All-pop, All-push, All-same}
use Rattle.std.proofs.lemmas.Option.{get_or_from_slice_get, slice_get-get_or, slice_get_within}
use Rattle.std.proofs.lemmas.Bool.{false≢true}
use Rattle.std.specs.Option.{option_to_list}
use Rattle.std.specs.Result.{IsErr}

pub at_each_place : {X : Type 0} (xs : List X) (P : X → Type 0) → All P xs → (i : ℕ) (x : X) → slice_get xs i ≡ Some x → P x
at_each_place xs P all i x got = subst P (get_or_from_slice_get xs i x x got) (All-get_or P xs i x (slice_get_within xs i x got) all)

pub from_each_place : {X : Type 0} (xs : List X) (P : X → Type 0) → ((i : ℕ) (x : X) → slice_get xs i ≡ Some x → P x) → All P xs
from_each_place xs P each k d below = each k (get_or xs k d) (slice_get-get_or xs k d below)

pub popped : {X : Type 0} (xs ys : List X) (P : X → Type 0) (r : Option X) (x : X) → xs ≡ ys ++ option_to_list r → r ≡ Some x → All P xs → All P ys × P x
popped xs ys P r x items is all = All-pop P xs ys (Some x) (subst (λ o. xs ≡ ys ++ option_to_list o) is items) all

-- `told` is whether there was memory
pub pushed : {X : Type 0} (xs ys : List X) (P : X → Type 0) (told : Bool) (x : X) → ys ≡ (if told then xs ++ x ∷ [] else xs) → All P xs → P x → All P ys
pushed xs ys P true x items all this = All-same P ys (xs ++ x ∷ []) items (All-push P xs x all this)
pushed xs ys P false x items all this = All-same P ys xs items all

-- what is said of a value is said of none
pub none_on_err : {A E : Type 0} (P : Type 0) (r : Result A E) → IsErr r → OnOk r P
none_on_err P (Ok x) is = absurd (false≢true is)
none_on_err P (Err e) is = tt
