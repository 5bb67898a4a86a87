-- What each step of a seat leaves it with, and tells it.
use Rattle.std.specs.Prelude.{◌≡◌, ◌≢◌, ◌⊎◌, ℕ, ◌+◌, ◌*◌, ◌<◌, ◌≤◌, List, [], ◌∷◌, ◌++◌, true, false, length, slice_index_or, slice_set}
use Rattle.atomic_table.specs.Table.{Step as TableStep, Me}
use Rattle.history.specs.Types.{Call, Reply, Ask, Step, Item, Answered, Failed, About, Caller, View, Role, Nobody, Opener, Keeps, Calls, Token, Nothing, Open, Done}
use Rattle.history.specs.Histories.{IsBeginning, IsLegalAt, reply_of, shard_in, step_of, steps_by, steps_on, asks_by, asks_on, IsByPasses, HasStep, IsRising, IsAmong, AreAmong, IsFirst, IsFirstNumber, IsFirstIfAmong, behind_first, behind_on, asks_beside, bound}
use Rattle.history.specs.Rule.{alone, opener, newcomer}

-- a seat that knows nothing
abbrev pub loose : View
loose = alone Nobody Nothing

-- the call in hand goes to a seat of its own
abbrev pub kept_back : View → View
kept_back v = record v { hand = Nothing }

-- and that seat has nothing else
abbrev pub seat_alone : View → View
seat_alone v = alone Nobody v.hand

-- another seat's call comes into hand
abbrev pub taken : View → View → View
taken v w = record v { hand = w.hand }

-- a pass sits with a book, or with another pass
abbrev pub seated : View → View → View
seated v w = record v { guest = w.role }

-- the guest leaves
abbrev pub host : View → View
host v = alone v.role v.hand

-- to a seat of its own
abbrev pub visitor : View → View
visitor v = alone v.guest Nothing

-- the opening learns what it is of
abbrev pub NamesAs : About → Role → View → Type 0
NamesAs about (Opener known a b) w = w ≡ opener about a b
NamesAs about role w = Unit {0}

-- a load by which it learns that
abbrev pub named : About → TableStep Unit → Me Unit View → ℕ → Me Unit View → Type 0
named about st m found m' = NamesAs about m.0.role m'.0 × (m'.1 ≡ m.1)

-- the book of shard k
abbrev pub keeper : About → ℕ → List Item → List Ask → Token → View
keeper about k items doubt hand =
    alone (Keeps (record { about = about; shard = k; items = items; doubt = doubt })) hand

-- the next book and the next pass go to seats of their own
abbrev pub after_book : Role → View
after_book (Opener about a b) = opener about (a + 1) b
after_book role = alone role Nothing

abbrev pub next_book : Role → View
next_book (Opener about a b) = keeper about a [] [] Nothing
next_book role = loose

abbrev pub after_pass : Role → View
after_pass (Opener about a b) = opener about a (b + 1)
after_pass role = alone role Nothing

abbrev pub next_pass : Role → View
next_pass (Opener about a b) = alone (Calls (newcomer about b)) Nothing
next_pass role = loose

-- the step of a call after these items
abbrev pub answered : About → ℕ → List Item → Ask → Step
answered about k items a = step_of a (reply_of about k items a.call)

abbrev pub commit_with : ℕ × ℕ → Role → Token → View
commit_with moment (Keeps shelf) (Open a f e) =
    let s : Step = answered shelf.about shelf.shard shelf.items a in
    let now : List Item = shelf.items ++ Answered s ∷ [] in
    keeper shelf.about shelf.shard now [] (Done s now moment)
commit_with moment role hand = alone role hand

-- the step stands after the history, and the call in hand has it
abbrev pub committed_at : ℕ × ℕ → TableStep Unit → Me Unit View → ℕ → Me Unit View → Type 0
committed_at moment st m found m' = m' ≡ (commit_with moment m.0.role m.0.hand, m.1)

-- an open call comes into hand, and is in doubt from now on
abbrev pub doubting : Role → Token → View
doubting (Keeps shelf) (Open a f e) =
    keeper shelf.about shelf.shard shelf.items (shelf.doubt ++ a ∷ []) (Open a true e)
doubting role hand = alone role hand

-- by a join of two seats
abbrev pub in_doubt : View → View → View
in_doubt v w = doubting v.role w.hand

abbrev pub mark_with : Role → View
mark_with (Keeps shelf) = keeper shelf.about shelf.shard
    (shelf.items ++ Failed shelf.doubt ∷ []) [] Nothing
mark_with role = alone role Nothing

-- a mark with the calls in doubt stands after the history
abbrev pub marked : TableStep Unit → Me Unit View → ℕ → Me Unit View → Type 0
marked st m found m' = m' ≡ (mark_with m.0.role, m.1)

-- what a pass has seen of shard k
abbrev pub seen_at : Caller → ℕ → List Item
seen_at c k = slice_index_or c.seen k []

-- a call of the pass under a number
abbrev pub ask_of : Caller → ℕ → Call → Ask
ask_of c n call = record { pass = c.pass; number = n; call = call }

-- the pass with this call pending after its other open calls
abbrev pub announce_to : Caller → ℕ → Call → Caller
announce_to c n call = record c { last = n; pending = c.pending ++ ask_of c n call ∷ [] }

-- the open calls of the pass on the shard of this call
abbrev pub before_of : Caller → ℕ → Call → List Ask
before_of c n call = asks_on c.about (shard_in c.about (ask_of c n call)) c.pending

-- the steps of a pass in what it has seen of shard k are just those that it made there, and of each shard
abbrev pub IsRestedAt : Caller → ℕ → Type 0
IsRestedAt c k = steps_by c.pass (seen_at c k) ≡ steps_on c.about k c.made

abbrev pub IsRested : Caller → Type 0
IsRested c = (k : ℕ) → IsRestedAt c k

abbrev pub Announces : Call → ℕ → Role → View → Type 0
Announces call n (Calls c) w =
    (w ≡ alone (Calls (announce_to c n call)) (Open (ask_of c n call) false (before_of c n call)))
    × (c.pending ≡ [] → IsRested c)
    × ((k : ℕ) → asks_on c.about k c.pending ≡ [] → IsRestedAt c k)
Announces call n role w = Unit {0}

-- a pass announces the call, under the number that it stores
abbrev pub announced_as : Call → TableStep Unit → Me Unit View → ℕ → Me Unit View → Type 0
announced_as call st m found m' = Announces call st.first m.0.role m'.0 × (m'.1 ≡ m.1)

-- the pass without its first open call, and with this number withdrawn
abbrev pub withdraw_to : Caller → ℕ → Caller
withdraw_to c n = record c { withdrawn = c.withdrawn ++ n ∷ []; pending = behind_first c.pending }

-- the pass without this first open call of its shard, and with the call's number withdrawn
abbrev pub withdraw_at : Caller → Ask → Caller
withdraw_at c a = record c {
  withdrawn = c.withdrawn ++ a.number ∷ [];
  pending = behind_on c.about (shard_in c.about a) c.pending;
}

-- the call of this number is the first open one of shard k, where the steps of the pass in what it has seen are just
-- those that it made
abbrev pub IsNextOn : Caller → ℕ → ℕ → Type 0
IsNextOn c n k = IsFirstNumber n (asks_on c.about k c.pending) × IsRestedAt c k

-- the call is the first open one of its shard, the one that its number told, and of all if it was said to be
abbrev pub IsFirstOf : Caller → Ask → Type 0
IsFirstOf c a = IsFirst a (asks_beside c.about a c.pending)
    × (IsFirstIfAmong a c.pending → IsFirst a c.pending)
    × ((k : ℕ) → IsFirstNumber a.number (asks_on c.about k c.pending) → k ≡ shard_in c.about a)
    × (length (behind_on c.about (shard_in c.about a) c.pending) + 1 ≡ length c.pending)

-- by its number the call is the first open one of all, or of a shard
abbrev pub IsFirstSaid : Caller → Ask → Type 0
IsFirstSaid c a = IsFirstIfAmong a c.pending
    ⊎ ((k : ℕ) × IsFirstNumber a.number (asks_on c.about k c.pending))

-- and nothing else of the pass has been seen there
abbrev pub IsNextSaid : Caller → Ask → Type 0
IsNextSaid c a = (IsFirstIfAmong a c.pending × IsRested c) ⊎ ((k : ℕ) × IsNextOn c a.number k)

abbrev pub Withdraws : Role → Token → View → Type 0
Withdraws (Calls c) (Open a f e) w = (w ≡ alone (Calls (withdraw_at c a)) Nothing)
    × IsFirstOf c a
Withdraws role hand w = Unit {0}

-- a pass takes the first open call of a shard back
abbrev pub withdrew : TableStep Unit → Me Unit View → ℕ → Me Unit View → Type 0
withdrew st m found m' = Withdraws m.0.role m.0.hand m'.0 × (m'.1 ≡ m.1)

-- the pass with its first open call answered by this step, up to which it has seen the shard's history
abbrev pub collect_to : Caller → Step → List Item → Caller
collect_to c s new = record c {
  seen = slice_set c.seen (shard_in c.about s.ask) new;
  made = c.made ++ s ∷ [];
  pending = behind_first c.pending;
}

-- the pass with the first open call of a shard answered by this step
abbrev pub collect_at : Caller → Step → List Item → Caller
collect_at c s new = record c {
  seen = slice_set c.seen (shard_in c.about s.ask) new;
  made = c.made ++ s ∷ [];
  pending = behind_on c.about (shard_in c.about s.ask) c.pending;
}

-- where the steps of a pass are those that it made, they still are, and now they are at shard k
abbrev pub StaysRested : Caller → Caller → ℕ → Type 0
StaysRested c d k = IsRestedAt d k × ((j : ℕ) → IsRestedAt c j → IsRestedAt d j)

-- the pass with its next call announced and then answered, with nothing between
abbrev pub call_to : Caller → Call → Reply → List Item → Caller
call_to c call reply new = collect_to (announce_to c (c.last + 1) call)
    (step_of (ask_of c (c.last + 1) call) reply) new

-- `new` is `old`, then items in which pass p has no step, then the step s
pub record Extends (p : ℕ) (old : List Item) (s : Step) (new : List Item) : Type 0 where
  pub between : List Item
  pub is : new ≡ (old ++ between) ++ Answered s ∷ []
  pub none : steps_by p between ≡ []

-- Of the shard of step s a pass has now seen the history up to that step, which is what it had seen, then items of
-- others, then the step. Of the other shards it has seen what it had seen.
pub record HasSeenStep (old new : Caller) (s : Step) (upto : List Item) : Type 0 where
  pub seen : seen_at new (shard_in old.about s.ask) ≡ upto
  pub extends : Extends old.pass (seen_at old (shard_in old.about s.ask)) s upto
  pub legal : IsLegalAt old.about (shard_in old.about s.ask) upto
  pub by_passes : IsByPasses old.about.passes upto
  pub others : (k : ℕ) → k ≢ shard_in old.about s.ask → seen_at new k ≡ seen_at old k

abbrev pub Collects : Role → Token → View → Type 0
Collects (Calls c) (Done s upto at) w =
    let k : ℕ = shard_in c.about s.ask in
    (w ≡ alone (Calls (collect_at c s upto)) Nothing) × IsLegalAt c.about k upto
    × Extends c.pass (seen_at c k) s upto
    × (k < length c.seen) × IsFirstOf c s.ask × StaysRested c (collect_at c s upto) k
    × IsByPasses c.about.passes upto
Collects role hand w = Unit {0}

-- a pass takes an answer in
abbrev pub collected : TableStep Unit → Me Unit View → ℕ → Me Unit View → Type 0
collected st m found m' = Collects m.0.role m.0.hand m'.0 × (m'.1 ≡ m.1)

-- the pass with this seen of shard k
abbrev pub look_to : Caller → ℕ → List Item → Caller
look_to c k new = record c { seen = slice_set c.seen k new }

-- each of these calls was made, or is open
abbrev pub AreHis : List Step → List Ask → List Ask → Type 0
AreHis made pending [] = Unit {0}
AreHis made pending (a ∷ asks) = (HasStep a made ⊎ IsAmong a pending) × AreHis made pending asks

-- in these items of shard k the steps of a pass are those that it made and then possibly some of its open calls, in
-- their order. Its calls in the mark's list are of these two kinds
pub record HasStepsOf (c : Caller) (k : ℕ) (items : List Item) : Type 0 where
  pub rest : List Step
  pub is : steps_by c.pass items ≡ steps_on c.about k c.made ++ rest
  pub among : AreAmong rest c.pending
  pub rises : IsRising rest
  pub told : AreHis c.made c.pending (asks_by c.pass items)

abbrev pub TakesLook : ℕ → ℕ → Role → View → Type 0
TakesLook k found (Calls c) w =
    (new : List Item) × (w ≡ alone (Calls (look_to c k new)) Nothing)
    × IsBeginning (seen_at c k) new
    × IsLegalAt c.about k new × (length new ≡ found) × HasStepsOf c k new × (k < length c.seen)
    × IsByPasses c.about.passes new
TakesLook k found role w = Unit {0}

-- a pass sees the history of a shard
abbrev pub looked : TableStep Unit → Me Unit View → ℕ → Me Unit View → Type 0
looked st m found m' = TakesLook st.word found m.0.role m'.0 × (m'.1 ≡ m.1)

-- what two passes see of shard k begins with what each had seen, is legal, has of each the steps that it made, and no
-- steps but those of passes of the opening
abbrev pub IsMeeting : Caller → Caller → ℕ → List Item → Type 0
IsMeeting c d k new = IsBeginning (seen_at c k) new × IsBeginning (seen_at d k) new
    × IsLegalAt c.about k new
    × HasStepsOf c k new × HasStepsOf d k new × (d.about ≡ c.about) × IsByPasses c.about.passes new

abbrev pub Meets : ℕ → Role → Role → View → Type 0
Meets k (Calls c) (Calls d) w =
    (new : List Item) × (w ≡ record {
      role = Calls (look_to c k new);
      guest = Calls (look_to d k new);
      hand = Nothing;
    }) × IsMeeting c d k new × (k < length c.seen) × (k < length d.seen)
Meets k role guest w = Unit {0}

-- two passes see one history of a shard
abbrev pub met : TableStep Unit → Me Unit View → ℕ → Me Unit View → Type 0
met st m found m' = Meets st.word m.0.role m.0.guest m'.0 × (m'.1 ≡ m.1)

-- the book's history begins with what the pass has seen, has just its steps, and no steps but those of passes of the
-- opening
abbrev pub AgreesWithPass : Role → Role → Type 0
AgreesWithPass (Keeps shelf) (Calls c) = IsBeginning (seen_at c shelf.shard) shelf.items
    × IsLegalAt shelf.about shelf.shard shelf.items × HasStepsOf c shelf.shard shelf.items
    × (c.about ≡ shelf.about)
    × IsByPasses shelf.about.passes shelf.items
AgreesWithPass role guest = Unit {0}

-- a look that compares a book with a pass, and changes neither
abbrev pub settled : TableStep Unit → Me Unit View → ℕ → Me Unit View → Type 0
settled st m found m' = (m' ≡ m) × AgreesWithPass m.0.role m.0.guest

-- this many items have room for a step under each number of each pass, and the mark
abbrev pub HasRoomForSteps : About → List Item → Type 0
HasRoomForSteps about items = length items ≤ about.passes * bound + 1

abbrev pub CountsItems : ℕ → Role → Type 0
CountsItems found (Keeps shelf) = (found ≡ length shelf.items)
    × HasRoomForSteps shelf.about shelf.items
    × IsLegalAt shelf.about shelf.shard shelf.items × IsByPasses shelf.about.passes shelf.items
CountsItems found role = Unit {0}

-- a look that counts a book's items, and changes nothing
abbrev pub items_counted : TableStep Unit → Me Unit View → ℕ → Me Unit View → Type 0
items_counted st m found m' = (m' ≡ m) × CountsItems found m.0.role
