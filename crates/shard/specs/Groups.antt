-- What calls, one after another, make of a book, and what becomes of a group of them that is written at once.
use Rattle.std.specs.Prelude.{◌≡◌, ◌⊎◌, ℕ, ◌+◌, List, [], ◌∷◌, ◌++◌, length, map, false, Option, Some, None, if◌then◌else◌}
use Rattle.accept.specs.declared.call.Call.{Call}
use Rattle.accept.specs.declared.call.Reply.{Reply}
use Rattle.accept.specs.declared.call.Reply.TheVariants.{Unavailable}
use Rattle.accept.specs.declared.history.Ask.{Ask}
use Rattle.accept.specs.declared.history.Item.{Item}
use Rattle.accept.specs.declared.history.Item.TheVariants.{Answered, Failed}
use Rattle.accept.specs.Histories.{meaning, changes, is_marked}
use Rattle.segment.specs.declared.record.Record.{Record}
use Rattle.segment.specs.Versions.{latest}
use Rattle.segment.specs.Spelling.{frame}
use Rattle.wal.specs.declared.log.Wal.{Wal}
use Rattle.wal.specs.Recovery.{Recovers}
use Rattle.wal.specs.Moments.{Pair, HasFailed}
use Rattle.wal.specs.Logs.{FitsInUse}
use Rattle.history.specs.declared.views.About.{About}
use Rattle.history.specs.Histories.{HasStep, IsAmong, steps_by, doubt_of, reply_of, step_of}
use Rattle.history.specs.Handles.{Booked, Announced, AreOf, history_in, longer}
use Rattle.streams.specs.Changes.{change_of}
use Rattle.shard.specs.Keeping.{owner_in, IsAllowed}
use Rattle.shard.specs.Calls.{reply_in}

-- the book with the call's step after it, which has the reply that is due
abbrev pub with_step : Booked → Ask → Booked
with_step book ask = longer book (Answered (step_of ask (reply_in book ask.call)))

-- these items of shard k with a step of each call after them, which has the reply that is due there
abbrev pub items_with : About → ℕ → List Item → List Ask → List Item
items_with about k items [] = items
items_with about k items (a ∷ asks) =
    items_with about k (items ++ Answered (step_of a (reply_of about k items a.call)) ∷ []) asks

-- the book with a step of each call after it
abbrev pub with_steps : Booked → List Ask → Booked
with_steps book asks = record book { items = items_with book.about book.shard book.items asks }

-- the replies that are due, each after the steps before it
abbrev pub dues : Booked → List Ask → List Reply
dues book [] = []
dues book (a ∷ asks) = reply_in book a.call ∷ dues (with_step book a) asks

-- those of the calls whose reply changes something
abbrev pub changing_of : Booked → List Ask → List Ask
changing_of book [] = []
changing_of book (a ∷ asks) =
    if changes (reply_in book a.call) then a ∷ changing_of (with_step book a) asks
    else changing_of (with_step book a) asks

abbrev pub listed : Option Record → List Record
listed None = []
listed (Some r) = r ∷ []

-- what the calls change, each judged after the steps before it
abbrev pub records_of : Booked → List Ask → List Record
records_of book [] = []
records_of book (a ∷ asks) = listed (change_of a.call (reply_in book a.call)) ++ records_of
    (with_step book a) asks

-- the block of what these calls change, with what this one changes after it, fits after the segment in use
abbrev pub FitsAfter : {D : Type 0} → Wal D → Booked → List Ask → Call → Type 0
FitsAfter log book asks call = FitsInUse log
    (length (frame latest (records_of book asks ++ listed
    (change_of call (reply_in (with_steps book asks) call)))) + 1)

-- each of the calls has a step in these items, or is one of those in front
abbrev pub HaveStepsOr : List Ask → List Item → List Ask → Type 0
HaveStepsOr [] items front = Unit {0}
HaveStepsOr (a ∷ asks) items front = (HasStep a (steps_by a.pass items) ⊎ IsAmong a front)
    × HaveStepsOr asks items front

-- each ticket names calls with a step, those in front, and those of the tickets before it
abbrev pub AreInTurn : List Item → List Ask → List Announced → Type 0
AreInTurn items front [] = Unit {0}
AreInTurn items front (t ∷ ts) = HaveStepsOr t.before items front
    × AreInTurn items (front ++ t.ask ∷ []) ts

-- the calls of these tickets may have the next steps of the book, in this order
pub record AreNext (book : Booked) (tickets : List Announced) : Type 0 where
  pub here : AreOf book tickets
  pub turn : AreInTurn book.items [] tickets

-- the book with the mark of a failure while the calls were written
abbrev pub marked_by : Booked → List Ask → Booked
marked_by book asks = longer book (Failed (changing_of book asks))

-- A device call failed: a mark with the calls that change something stands before the steps.
pub record AreMarkedInDoubt (old new : Pair) (before : Booked) (asks : List Ask) (behind : Booked)
    (replies : List Reply) : Type 0 where
  pub failure : HasFailed old new
  pub unmarked : is_marked before.items ≡ false
  pub replied : replies ≡ map (λ _. Unavailable) asks
  pub book : behind ≡ with_steps (marked_by before asks) asks

-- What a crash may leave while the calls are on their way: what was allowed at their start, or what stands for the
-- streams after them all.
abbrev pub MayLeaveAll : Booked → List Ask → List ℕ → List ℕ → Type 0
MayLeaveAll book asks a b = IsAllowed book (doubt_of book.items) a b
    ⊎ Recovers (owner_in book) a b (meaning (history_in (with_steps book asks)))
