-- The laws of requests at the front of bytes.
use Rattle.std.specs.Prelude.{◌≡◌, ℕ, List, [], ◌∷◌, ◌++◌}
use Rattle.requests.specs.Streams.{Request, ReadsMessage, BeginsRefused, IsCut, ReadsRequests, HoldsNone, AreRequests}
use Rattle.requests.specs.declared.fixed.FixedAnswer.{FixedAnswer}

-- bytes begin with one request at most, and one rest
abbrev pub HaveOneRequest : List ℕ → Type 0
HaveOneRequest bytes = (r s : Request) (x y : List ℕ) → ReadsMessage bytes r x
    → ReadsMessage bytes s y → (r ≡ s)
    × (x ≡ y)

-- bytes after a request change nothing of it
abbrev pub KeepsRequest : List ℕ → List ℕ → Type 0
KeepsRequest bytes more = (r : Request) (rest : List ℕ) → ReadsMessage bytes r rest
    → ReadsMessage (bytes ++ more) r (rest ++ more)

-- what is refused begins no request, whatever follows
abbrev pub RefusesForGood : List ℕ → List ℕ → Type 0
RefusesForGood bytes more = (r : Request) (rest : List ℕ) (why : FixedAnswer)
    → ReadsMessage (bytes ++ more) r rest
    → ¬ BeginsRefused bytes why

-- bytes that are cut hold no whole request
abbrev pub HoldsNoneIfCut : List ℕ → Type 0
HoldsNoneIfCut bytes = IsCut bytes → HoldsNone bytes

-- the requests at the front of bytes are one list, with one rest
abbrev pub HaveOneSplit : List ℕ → Type 0
HaveOneSplit bytes = (rs ss : List Request) (x y : List ℕ) → AreRequests bytes rs x
    → AreRequests bytes ss y
    → (rs ≡ ss) × (x ≡ y)

-- a request after others is one more of them
abbrev pub GoOn : List ℕ → Type 0
GoOn bytes = (rs : List Request) (mid : List ℕ) (r : Request) (rest : List ℕ)
    → ReadsRequests bytes rs mid
    → ReadsMessage mid r rest → ReadsRequests bytes (rs ++ r ∷ []) rest
