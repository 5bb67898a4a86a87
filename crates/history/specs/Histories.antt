-- Histories of the shards of one opening, and what stands in them of a pass.
use Rattle.std.specs.Prelude.{◌≡◌, ◌≢◌, ◌⊎◌, ℕ, ◌+◌, ◌<◌, ◌==◌, List, [], ◌∷◌, ◌++◌, if◌then◌else◌, slice_index_or}
use Rattle.std.specs.FinMap as finite
use Rattle.history.specs.Types.{Streams, Call, Reply, Ask, Step, Item, Answered, Failed, History, About}
use Rattle.accept.specs.Histories.{Terms, IsLegal, key_of, reply_to}
use Rattle.history.specs.Shards.{shard_of, is_of_shard}

-- `front` is a beginning of `all`
pub record IsBeginning {A : Type 0} (front all : List A) : Type 0 where
  pub rest : List A
  pub is : all ≡ front ++ rest

-- what shard k of the opening answers by
abbrev pub terms_of : About → ℕ → Terms
terms_of about k = record {
  limits = about.limits;
  capacity = about.capacity;
  is_here =
      is_of_shard about.shards k;
}

abbrev pub base_at : About → ℕ → Streams
base_at about k = slice_index_or about.bases k finite.empty

-- these items of shard k, over what the opening found there
abbrev pub history_of : About → ℕ → List Item → History
history_of about k items = record { base = base_at about k; items = items }

-- these items of shard k are a legal history
pub record IsLegalAt (about : About) (k : ℕ) (items : List Item) : Type 0 where
  pub is : IsLegal (terms_of about k) (history_of about k items)

-- what shard k replies to a call after these items
unfoldable pub reply_of : About → ℕ → List Item → Call → Reply
reply_of about k items call = reply_to (terms_of about k) (history_of about k items) call

-- the shard of a call
abbrev pub shard_in : About → Ask → ℕ
shard_in about a = shard_of (key_of a.call) about.shards

abbrev pub step_of : Ask → Reply → Step
step_of a r = record { ask = a; reply = r }

-- the calls in doubt by the mark, or these where there is none
abbrev pub doubt_or : List Item → List Ask → List Ask
doubt_or [] asks = asks
doubt_or (Answered s ∷ items) asks = doubt_or items asks
doubt_or (Failed doubt ∷ items) asks = doubt

-- the calls in doubt by the mark, if there is one
abbrev pub doubt_of : List Item → List Ask
doubt_of items = doubt_or items []

-- the steps of a pass
abbrev pub steps_by : ℕ → List Item → List Step
steps_by p [] = []
steps_by p (Answered s ∷ items) = if p == s.ask.pass then s ∷ steps_by p items else steps_by p items
steps_by p (Failed asks ∷ items) = steps_by p items

-- those of these steps whose call is shard k's
abbrev pub steps_on : About → ℕ → List Step → List Step
steps_on about k [] = []
steps_on about k (s ∷ steps) =
    if k == shard_in about s.ask then s ∷ steps_on about k steps else steps_on about k steps

-- those of these calls that are of a pass
abbrev pub of_pass : ℕ → List Ask → List Ask
of_pass p [] = []
of_pass p (a ∷ asks) = if p == a.pass then a ∷ of_pass p asks else of_pass p asks

-- the calls of a pass in the mark's list
abbrev pub asks_by : ℕ → List Item → List Ask
asks_by p [] = []
asks_by p (Answered s ∷ items) = asks_by p items
asks_by p (Failed asks ∷ items) = of_pass p asks ++ asks_by p items

-- these calls are of passes below n
abbrev pub HavePassesBelow : ℕ → List Ask → Type 0
HavePassesBelow n [] = Unit {0}
HavePassesBelow n (a ∷ asks) = (a.pass < n) × HavePassesBelow n asks

-- each step, and each call in a mark's list, is of one of n passes
abbrev pub IsByPasses : ℕ → List Item → Type 0
IsByPasses n [] = Unit {0}
IsByPasses n (Answered s ∷ items) = (s.ask.pass < n) × IsByPasses n items
IsByPasses n (Failed asks ∷ items) = HavePassesBelow n asks × IsByPasses n items

-- the numbers of these steps are below n
abbrev pub HaveNumbersBelow : ℕ → List Step → Type 0
HaveNumbersBelow n [] = Unit {0}
HaveNumbersBelow n (s ∷ steps) = (s.ask.number < n) × HaveNumbersBelow n steps

-- the numbers of these steps are above n
abbrev pub HaveNumbersAbove : ℕ → List Step → Type 0
HaveNumbersAbove n [] = Unit {0}
HaveNumbersAbove n (s ∷ steps) = (n < s.ask.number) × HaveNumbersAbove n steps

-- the numbers of these steps rise
abbrev pub IsRising : List Step → Type 0
IsRising [] = Unit {0}
IsRising (s ∷ steps) = HaveNumbersAbove s.ask.number steps × IsRising steps

-- no step has the number n
abbrev pub IsUnused : ℕ → List Step → Type 0
IsUnused n [] = Unit {0}
IsUnused n (s ∷ steps) = (s.ask.number ≢ n) × IsUnused n steps

-- none of the numbers is a step's
abbrev pub AreUnused : List ℕ → List Step → Type 0
AreUnused [] steps = Unit {0}
AreUnused (n ∷ ns) steps = IsUnused n steps × AreUnused ns steps

-- the call has one of these steps
abbrev pub HasStep : Ask → List Step → Type 0
HasStep a [] = ⊥
HasStep a (s ∷ steps) = (s.ask ≡ a) ⊎ HasStep a steps

-- each of the calls has a step in these items
abbrev pub HaveSteps : List Ask → List Item → Type 0
HaveSteps [] items = Unit {0}
HaveSteps (a ∷ asks) items = HasStep a (steps_by a.pass items) × HaveSteps asks items

-- the call is one of these
abbrev pub IsAmong : Ask → List Ask → Type 0
IsAmong a [] = ⊥
IsAmong a (b ∷ asks) = (b ≡ a) ⊎ IsAmong a asks

-- each step's call is one of these
abbrev pub AreAmong : List Step → List Ask → Type 0
AreAmong [] asks = Unit {0}
AreAmong (s ∷ steps) asks = IsAmong s.ask asks × AreAmong steps asks

-- the call is the first of these
abbrev pub IsFirst : Ask → List Ask → Type 0
IsFirst a [] = ⊥
IsFirst a (b ∷ asks) = b ≡ a

-- the first of these calls has the number n
abbrev pub IsFirstNumber : ℕ → List Ask → Type 0
IsFirstNumber n [] = ⊥
IsFirstNumber n (a ∷ asks) = a.number ≡ n

-- if the call is one of these, it is the first, by its number
abbrev pub IsFirstIfAmong : Ask → List Ask → Type 0
IsFirstIfAmong a asks = IsAmong a asks → IsFirstNumber a.number asks

-- those after the first
abbrev pub behind_first : List Ask → List Ask
behind_first [] = []
behind_first (a ∷ asks) = asks

-- those of these calls that are shard k's
abbrev pub asks_on : About → ℕ → List Ask → List Ask
asks_on about k [] = []
asks_on about k (a ∷ asks) =
    if k == shard_in about a then a ∷ asks_on about k asks else asks_on about k asks

-- without the first of shard k
abbrev pub behind_on : About → ℕ → List Ask → List Ask
behind_on about k [] = []
behind_on about k (a ∷ asks) = if k == shard_in about a then asks else a ∷ behind_on about k asks

-- those of these calls that are of the call's shard
abbrev pub asks_beside : About → Ask → List Ask → List Ask
asks_beside about a asks = asks_on about (shard_in about a) asks

-- the numbers of these steps
abbrev pub numbers_of : List Step → List ℕ
numbers_of [] = []
numbers_of (s ∷ steps) = s.ask.number ∷ numbers_of steps

-- none of these calls has the number n
abbrev pub IsFree : ℕ → List Ask → Type 0
IsFree n [] = Unit {0}
IsFree n (a ∷ asks) = (a.number ≢ n) × IsFree n asks

-- these numbers are used, up to the last, and are of no open call
abbrev pub AreSpent : ℕ → List Ask → List ℕ → Type 0
AreSpent last pending [] = Unit {0}
AreSpent last pending (n ∷ ns) = (n < last + 1) × IsFree n pending × AreSpent last pending ns

-- the most passes of an opening
abbrev pub max_passes : ℕ
max_passes = 64

-- the most open calls of a pass
abbrev pub max_open : ℕ
max_open = 64

-- numbers of calls are below this: 2^56
abbrev pub bound : ℕ
bound = 72057594037927936
