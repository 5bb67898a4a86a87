-- What an item more is to the mark, the doubt and the meaning of a book.
use Rattle.std.proofs.Common.{◌≡◌, false, List, [], ◌∷◌, ◌++◌, refl}
use Rattle.accept.specs.declared.history.Ask.{Ask}
use Rattle.accept.specs.declared.history.Step.{Step}
use Rattle.accept.specs.declared.history.Item.{Item}
use Rattle.accept.specs.declared.history.Item.TheVariants.{Answered, Failed}
use Rattle.accept.specs.Histories.{is_marked}
use Rattle.history.specs.Histories.{doubt_of}

-- a step leaves the doubt as it is
pub doubt_step : (xs : List Item) (s : Step) → doubt_of (xs ++ Answered s ∷ []) ≡ doubt_of xs
doubt_step [] s = refl
doubt_step (Answered t ∷ xs) s = doubt_step xs s
doubt_step (Failed asks ∷ xs) s = refl

-- the first mark brings its calls into doubt
pub doubt_mark : (xs : List Item) (asks : List Ask) → is_marked xs ≡ false → doubt_of (xs ++ Failed asks ∷ []) ≡ asks
doubt_mark [] asks e = refl
doubt_mark (Answered t ∷ xs) asks e = doubt_mark xs asks e
doubt_mark (Failed more ∷ xs) asks e = absurd (cc)
