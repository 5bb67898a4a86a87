-- The visits of one connection, one after another, whatever happened between them.
use Rattle.std.specs.Prelude.{◌≡◌, ℕ, false, List, [], ◌∷◌, ◌++◌, length, map}
use Rattle.std.specs.List.{flat_map}
use Rattle.answering.specs.Calls.{Giving}
use Rattle.answering.specs.Serving.{Exchange, World, response, closes, IsExchange, ConnectionGives}

-- a visit that keeps its connection: what came before it, what was known, what it answered, what was left, what is
-- known then
pub record Stay (H C : Type 0) : Type 0 where
  pub came : List ℕ
  pub before : World H C
  pub exchanges : List Exchange
  pub rest : List ℕ
  pub after : World H C

abbrev pub visit_text : {H C : Type 0} → Stay H C → List ℕ
visit_text v = flat_map response v.exchanges

module _ {H C : Type 0} (gives : Giving H) (ticks : C → ℕ → C → Type 0) where
  -- from what was left by one to the next; what is known may change between them
  abbrev pub AreStays : List ℕ → List (Stay H C) → List ℕ → Type 0
  AreStays old [] rest = rest ≡ old
  AreStays old (v ∷ vs) rest = ConnectionGives gives ticks (old ++ v.came) v.before v.exchanges v.rest v.after
      × AreStays v.rest vs rest

  -- the bytes are these requests, none of which closes, and then rest; the calls of each were made from what was known
  -- then
  abbrev pub AnswersApart : List ℕ → List Exchange → List ℕ → Type 0
  AnswersApart bytes [] rest = rest ≡ bytes
  AnswersApart bytes (e ∷ es) rest = (mid : List ℕ) × (w : World H C) × (w' : World H C)
      × IsExchange gives ticks bytes w e mid w' × (closes e ≡ false)
      × AnswersApart mid es rest

  -- what the visits answered are the requests in all the bytes that came
  abbrev pub AreOneConnection : List ℕ → List (Stay H C) → List ℕ → Type 0
  AreOneConnection old visits rest = AreStays old visits rest
      → AnswersApart (old ++ flat_map (λ v. v.came) visits) (flat_map (λ v. v.exchanges) visits) rest

  -- a connection that is served in one answers so, too
  abbrev pub IsApart : List ℕ → World H C → List Exchange → List ℕ → World H C → Type 0
  IsApart bytes w es rest w' = ConnectionGives gives ticks bytes w es rest w' → AnswersApart bytes es rest

  -- as many requests at the front of the same bytes are the same, and the rest is
  abbrev pub HaveSameRequests : List ℕ → List Exchange → List Exchange → List ℕ → List ℕ → Type 0
  HaveSameRequests bytes es ds x y = AnswersApart bytes es x → AnswersApart bytes ds y
      → length es ≡ length ds
      → (map (λ e. e.request) es ≡ map (λ e. e.request) ds) × (x ≡ y)

-- the texts of visits are the responses to all that they answered
abbrev pub IsOneText : {H C : Type 0} → List (Stay H C) → Type 0
IsOneText visits = flat_map visit_text visits ≡ flat_map response (flat_map (λ v. v.exchanges) visits)
