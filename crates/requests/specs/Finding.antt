-- How many fields of one name there are, without where they lie; for private clauses.
use Rattle.std.specs.Prelude.{◌≡◌, ℕ, ◌<◌, List, [], ◌∷◌, length, Option, Some, None}
use Rattle.std.specs.Borrow.{Bor}
use Rattle.requests.specs.declared.fields.Found.{Found}
use Rattle.requests.specs.declared.fields.Found.TheVariants.{Nothing, One, Many}

-- what was found of these values
abbrev pub Finds : List (List ℕ) → Found → Type 0
Finds values Nothing = values ≡ []
Finds values (One value) = values ≡ value.now ∷ []
Finds values Many = 1 < length values

-- the value that was seen, if one was
abbrev pub seen : Option (Bor (List ℕ)) → List (List ℕ)
seen None = []
seen (Some value) = value.now ∷ []
