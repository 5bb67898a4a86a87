-- The rule of the table, between any two steps.
use Rattle.std.specs.Prelude.{◌≡◌, ◌≢◌, ◌⊎◌, ℕ, zero, suc, ◌+◌, ◌<◌, ◌≤◌, List, [], ◌∷◌, ◌++◌, Bool, true, if◌then◌else◌, length, replicate, slice_index, slice_index_or}
use mathlib.Core.Option.{some}
use lib.ListN.{get_elem?}
use Rattle.atomic_table.specs.Table.{State}
use Rattle.history.specs.Types.{Ask, Step, Item, Answered, About, Caller, View, Role, Nobody, Opener, Keeps, Calls, Token, Nothing, Open, Done}
use Rattle.accept.specs.Histories.{is_marked}
use Rattle.history.specs.declared.views.Sizes.{Sizes}
use Rattle.history.specs.Histories.{IsBeginning, IsLegalAt, shard_in, steps_by, steps_on, asks_by, asks_on, HaveNumbersBelow, IsRising, AreSpent, numbers_of, AreUnused, HasStep, IsAmong, IsByPasses, bound, max_passes, max_open}

-- a seat of this role, with no guest
abbrev pub alone : Role → Token → View
alone role hand = record { role = role; guest = Nobody; hand = hand }

-- the opening, which has the books from a on and the passes from b on
abbrev pub opener : About → ℕ → ℕ → View
opener about a b = alone (Opener about a b) Nothing

-- an opening of which only the sizes are known
abbrev pub unnamed : Sizes → About
unnamed sizes =
    record {
      shards = sizes.shards;
      passes = sizes.passes;
      limits = record { line = 0; half_age = 0; max_old = 0; max_ahead = 0 };
      capacity = 0;
      bases = [];
    }

-- a pass that has seen and made nothing
abbrev pub newcomer : About → ℕ → Caller
newcomer about p =
    record {
      about = about;
      pass = p;
      last = 0;
      seen = replicate about.shards [];
      made = [];
      withdrawn = [];
      pending = [];
    }

-- the shards' histories, what each pass knows, and its calls on their way, by their numbers
pub record TableContents : Type 0 where
  pub items : ℕ → List Item
  pub callers : ℕ → Caller
  pub tokens : ℕ → ℕ → Token

-- which seat has each shard's history, each pass, and each call of a pass
pub record Seating : Type 0 where
  pub books : ℕ → ℕ
  pub passes : ℕ → ℕ
  pub holders : ℕ → ℕ → ℕ

-- what the pass's word is: the last number, or 0 where no call is open
abbrev pub number_of : ℕ → List Ask → ℕ
number_of last [] = 0
number_of last (a ∷ asks) = last

-- above each number that the pass used before its open calls
abbrev pub floor_of : ℕ → List Ask → ℕ
floor_of last [] = last + 1
floor_of last (a ∷ asks) = a.number

-- the numbers of open calls rise, up to the last that was used
abbrev pub IsQueue : ℕ → List Ask → Type 0
IsQueue last [] = Unit {0}
IsQueue last (a ∷ asks) = (a.number < floor_of last asks) × IsQueue last asks

-- the call is on its way, and may stand in a mark's list
abbrev pub IsOnItsWay : Ask → Token → Type 0
IsOnItsWay a Nothing = ⊥
IsOnItsWay a (Open b f e) = (f ≡ true) × (b ≡ a)
IsOnItsWay a (Done s upto at) = s.ask ≡ a

-- each of the calls was made, or is on its way
abbrev pub AreTold : List Step → (ℕ → Token) → List Ask → Type 0
AreTold made ts [] = Unit {0}
AreTold made ts (a ∷ asks) = (HasStep a made ⊎ IsOnItsWay a (ts a.number)) × AreTold made ts asks

-- the call of a token is an open one of the pass. Where it has no step, all steps of the pass in its shard have smaller
-- numbers
abbrev pub TokenOk : About → (ℕ → List Item) → ℕ → List Ask → ℕ → Token → Type 0
TokenOk about items p pending n Nothing = Unit {0}
TokenOk about items p pending n (Open a f e) = (a.number ≡ n) × (a.pass ≡ p) × IsAmong a pending
    × HaveNumbersBelow n (steps_by p (items (shard_in about a)))
TokenOk about items p pending n (Done s upto at) =
    (s.ask.number ≡ n) × (s.ask.pass ≡ p) × IsAmong s.ask pending
    × IsBeginning upto (items (shard_in about s.ask))
    × ((before : List Item) × (upto ≡ before ++ Answered s ∷ []))

-- of two calls without a step on one shard, the later one names the earlier one
abbrev pub IsOrdered : About → (ℕ → Token) → Type 0
IsOrdered about ts = (a b : Ask) (f g : Bool) (d e : List Ask) → ts a.number ≡ Open a f d
    → ts b.number ≡ Open b g e
    → shard_in about a ≡ shard_in about b → a.number < b.number → IsAmong a e

-- the step is of an open call of shard k
pub record IsOfOpenCall (about : About) (k : ℕ) (ts : ℕ → Token) (s : Step) : Type 0 where
  pub upto : List Item
  pub at : ℕ × ℕ
  pub here : shard_in about s.ask ≡ k
  pub is : ts s.ask.number ≡ Done s upto at

abbrev pub AreOfOpenCalls : About → ℕ → (ℕ → Token) → List Step → Type 0
AreOfOpenCalls about k ts [] = Unit {0}
AreOfOpenCalls about k ts (s ∷ steps) = IsOfOpenCall about k ts s × AreOfOpenCalls about k ts steps

-- the steps of pass p in these items of shard k are those that it made, and some that it has not collected yet
pub record HasOwn (about : About) (p : ℕ) (made : List Step) (ts : ℕ → Token) (k : ℕ)
    (items : List Item) : Type 0 where
  pub rest : List Step
  pub is : steps_by p items ≡ steps_on about k made ++ rest
  pub waiting : AreOfOpenCalls about k ts rest

-- the numbers of a pass: of its last call, of those on their way, of those that it made and of those withdrawn
pub record AreNumbered (about : About) (last : ℕ) (pending : List Ask) (made : List Step)
    (withdrawn : List ℕ) : Type 0 where
  pub within : last < bound
  pub queue : IsQueue last pending
  pub few : length pending ≤ max_open
  -- on each shard the calls that it made have smaller numbers than its open ones
  pub rises : (k : ℕ) → HaveNumbersBelow (floor_of last (asks_on about k pending))
      (steps_on about k made)
  pub over : AreSpent last pending (numbers_of made)
  pub gone : AreSpent last pending withdrawn

-- in each history the numbers of a pass's steps rise, up to the last that it used, and none was withdrawn
pub record AreInOrder (items : ℕ → List Item) (p last : ℕ) (withdrawn : List ℕ) : Type 0 where
  pub rising : (k : ℕ) → IsRising (steps_by p (items k))
  pub used : (k : ℕ) → HaveNumbersBelow (last + 1) (steps_by p (items k))
  pub unused : (k : ℕ) → AreUnused withdrawn (steps_by p (items k))

-- what a pass has seen is a beginning of each history, in which all that it made stands
pub record HasSeen (about : About) (items : ℕ → List Item) (p : ℕ) (seen : List (List Item))
    (made : List Step) : Type 0 where
  pub parts : (k : ℕ) → IsBeginning (slice_index_or seen k []) (items k)
  pub wide : length seen ≡ about.shards
  pub own : (k : ℕ) → IsBeginning (steps_on about k made) (steps_by p (slice_index_or seen k []))

-- the calls of a pass on their way, and its steps beside them
pub record AreOnTheirWay (about : About) (items : ℕ → List Item) (p : ℕ) (pending : List Ask)
    (made : List Step) (ts : ℕ → Token) : Type 0 where
  pub own : (k : ℕ) → HasOwn about p made ts k (items k)
  -- the calls of marks' lists are calls that it made, or are on their way
  pub told : (k : ℕ) → AreTold made ts (asks_by p (items k))
  pub tokens : (n : ℕ) → TokenOk about items p pending n (ts n)
  pub order : IsOrdered about ts

-- a pass, its calls on their way, and the histories
pub record AccountOk (about : About) (items : ℕ → List Item) (p : ℕ) (c : Caller)
    (ts : ℕ → Token) : Type 0 where
  pub named : c.pass ≡ p
  pub numbers : AreNumbered about c.last c.pending c.made c.withdrawn
  pub steps : AreInOrder items p c.last c.withdrawn
  pub looks : HasSeen about items p c.seen c.made
  pub way : AreOnTheirWay about items p c.pending c.made ts

-- how many steps the passes below n have in all
abbrev pub steps_in_all : ℕ → List Item → ℕ
steps_in_all zero items = 0
steps_in_all (suc n) items = length (steps_by n items) + steps_in_all n items

-- the histories and the passes agree
pub record IsGood (about : About) (x : TableContents) : Type 0 where
  pub legal : (k : ℕ) → IsLegalAt about k (x.items k)
  -- each item is a step of a pass, or the one mark
  pub counted : (k : ℕ) → length (x.items k)
      ≤ steps_in_all about.passes (x.items k) + (if is_marked (x.items k) then 1 else 0)
  pub by_passes : (k : ℕ) → IsByPasses about.passes (x.items k)
  pub passes : (p : ℕ) → p < about.passes → AccountOk about x.items p (x.callers p) (x.tokens p)

-- a shard's word is the length of its history, a pass's word is 0 or the last number that it used
pub record AreWords (about : About) (x : TableContents) (words : List ℕ) : Type 0 where
  pub any : 0 < about.shards
  pub few : about.passes ≤ max_passes
  pub wide : length words ≡ about.shards + about.passes
  pub lengths : (k : ℕ) → k < about.shards → slice_index words k ≡ length (x.items k)
  pub numbers : (p : ℕ) → p < about.passes → slice_index words (about.shards + p)
      ≡ number_of (x.callers p).last (x.callers p).pending

-- the call has no step, and is in doubt
abbrev pub IsInDoubt : Ask → Token → Type 0
IsInDoubt a t = (e : List Ask) × (t ≡ Open a true e)

-- these calls of shard k are open, and in doubt
abbrev pub AreOpen : About → TableContents → ℕ → List Ask → Type 0
AreOpen about x k [] = Unit {0}
AreOpen about x k (a ∷ asks) = (a.pass < about.passes) × (shard_in about a ≡ k)
    × IsInDoubt a (x.tokens a.pass a.number) × AreOpen about x k asks

module _ (about : About) (x : TableContents) (seats : Seating) where
  abbrev pub IsRole : ℕ → Role → Type 0
  IsRole j Nobody = Unit {0}
  IsRole j (Opener known a b) =
      (known ≡ about) × ((k : ℕ) → a ≤ k → (seats.books k ≡ j) × (x.items k ≡ []))
      × ((p : ℕ) → b ≤ p → (seats.passes p ≡ j) × (x.callers p ≡ newcomer about p))
  IsRole j (Keeps shelf) = (shelf.about ≡ about) × (shelf.shard < about.shards)
      × (seats.books shelf.shard ≡ j)
      × (x.items shelf.shard ≡ shelf.items) × AreOpen about x shelf.shard shelf.doubt
  IsRole j (Calls c) = (c.about ≡ about) × (c.pass < about.passes) × (seats.passes c.pass ≡ j)
      × (x.callers c.pass ≡ c)

  abbrev pub IsHand : ℕ → Token → Type 0
  IsHand j Nothing = Unit {0}
  IsHand j (Open a f e) = (a.pass < about.passes) × (seats.holders a.pass a.number ≡ j)
      × (x.tokens a.pass a.number ≡ Open a f e)
  IsHand j (Done s upto at) = (s.ask.pass < about.passes)
      × (seats.holders s.ask.pass s.ask.number ≡ j)
      × (x.tokens s.ask.pass s.ask.number ≡ Done s upto at)

-- a pass and its guest are two
abbrev pub AreTwo : Role → Role → Type 0
AreTwo (Calls c) (Calls d) = c.pass ≢ d.pass
AreTwo role guest = Unit {0}

-- what seat j knows is the case
pub record IsSeat (about : About) (x : TableContents) (seats : Seating) (j : ℕ)
    (v : View) : Type 0 where
  pub role : IsRole about x seats j v.role
  pub guest : IsRole about x seats j v.guest
  pub two : AreTwo v.role v.guest
  pub hand : IsHand about x seats j v.hand

-- the rule, of an opening that is known
pub record HoldsFor (about : About) (s : State Unit View) : Type 0 where
  pub contents : TableContents
  pub seating : Seating
  pub words : AreWords about contents s.words
  pub good : IsGood about contents
  pub seats : (j : ℕ) (v : View) → get_elem? s.views j ≡ some v → IsSeat about contents seating j v

-- the rule
abbrev pub KeepsRule : State Unit View → Type 0
KeepsRule s = (about : About) × HoldsFor about s
