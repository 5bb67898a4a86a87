-- Judged calls on their way into the book.
use Rattle.std.specs.Prelude.{◌≡◌, ℕ, Bool, List, [], ◌∷◌, true, false, Option, Some, None, if◌then◌else◌}
use Rattle.accept.specs.declared.call.Reply.{Reply}
use Rattle.accept.specs.declared.call.Reply.TheVariants.{Unavailable}
use Rattle.accept.specs.declared.history.Ask.{Ask}
use Rattle.accept.specs.declared.history.Item.{Item}
use Rattle.accept.specs.Histories.{changes, is_marked}
use Rattle.std.specs.VecDeque.{deque_capacity}
use Rattle.disk.specs.Sight.{Sight}
use Rattle.wal.specs.declared.log.Wal.{Wal}
use Rattle.wal.specs.Logs.{Follow, slots}
use Rattle.history.specs.Histories.{doubt_of, step_of}
use Rattle.history.specs.Handles.{Booked, Announced, Received}
use Rattle.shard.specs.declared.group.Group.{Group}
use Rattle.shard.specs.declared.group.Settled.{Settled}
use Rattle.shard.specs.declared.group.Settled.TheVariants as settled
use Rattle.shard.specs.Keeping.{KeepsHistory}
use Rattle.shard.specs.Calls.{reply_in}
use Rattle.shard.specs.Groups.{with_step, with_steps, changing_of, marked_by, AreNext}

-- a judged call: its reply, with its ticket where it changes nothing
abbrev pub Waiting : Type 0
Waiting = Option Announced × Reply

-- the judged calls in their order, each with its ticket and its reply, where these are the tickets of those that change
-- something
abbrev pub waiting_in : List Waiting → List Announced → List (Announced × Reply)
waiting_in [] ts = []
waiting_in ((Some t, r) ∷ js) ts = (t, r) ∷ waiting_in js ts
waiting_in ((None, r) ∷ js) [] = []
waiting_in ((None, r) ∷ js) (t ∷ ts) = (t, r) ∷ waiting_in js ts

-- there is a ticket for each call that changes something, and for no other
abbrev pub AreMatched : List Waiting → List Announced → Type 0
AreMatched [] [] = Unit {0}
AreMatched [] (t ∷ ts) = ⊥
AreMatched ((Some t, r) ∷ js) ts = (changes r ≡ false) × AreMatched js ts
AreMatched ((None, r) ∷ js) [] = ⊥
AreMatched ((None, r) ∷ js) (t ∷ ts) = (changes r ≡ true) × AreMatched js ts

abbrev pub tickets_in : List (Announced × Reply) → List Announced
tickets_in [] = []
tickets_in (w ∷ ws) = w.0 ∷ tickets_in ws

abbrev pub asks_in : List (Announced × Reply) → List Ask
asks_in [] = []
asks_in (w ∷ ws) = w.0.ask ∷ asks_in ws

-- the reply of each is due after the steps before it
abbrev pub HaveDueReplies : Booked → List (Announced × Reply) → Type 0
HaveDueReplies book [] = Unit {0}
HaveDueReplies book (w ∷ ws) = (w.1 ≡ reply_in book w.0.ask.call)
    × HaveDueReplies (with_step book w.0.ask) ws

-- the receipt of a call whose step is the last of these items
abbrev pub receipt_at : List Item → Announced → Reply → ℕ × ℕ → Received
receipt_at upto t r moment =
    record { table = t.table; step = step_of t.ask r; upto = upto; moment = moment }

-- the calls of these tickets answered, one after another, at a moment of the clocks
abbrev pub settled_of : Booked → List Announced → ℕ × ℕ → List Settled
settled_of book [] moment = []
settled_of book (t ∷ ts) moment =
    let r = reply_in book t.ask.call in
    settled.Answered r (receipt_at (with_step book t.ask).items t r moment)
    ∷ settled_of (with_step book t.ask) ts moment

-- what is answered to a judged call, by whether a failure has lost it
abbrev pub answer_to : Reply → Bool → Reply
answer_to r is_lost = if is_lost then Unavailable else r

-- The waiting calls may be added to the book, each in its turn: with its reply, where all of them are kept, or, where a
-- failure has lost them, refused after its mark.
pub record AreDueOrLost {D : Type 0} (sight : D → Sight) (follows : D → Type 0) (log : Wal D)
    (book : Booked) (is_lost : Bool)
    (waiting : List (Announced × Reply)) : Type 0 where
  pub due : is_lost ≡ false → HaveDueReplies book waiting
  pub marked : is_lost ≡ true → is_marked book.items ≡ true
  pub next : AreNext book (tickets_in waiting)
  pub kept : Follow follows log
      → KeepsHistory (slots sight log) (with_steps book (asks_in waiting)) (doubt_of book.items)

-- A failure may lose these waiting calls: each has the reply that is due, and the slots keep the book with the mark and
-- those of them in doubt that change something.
pub record MayBeLost {D : Type 0} (sight : D → Sight) (follows : D → Type 0) (log : Wal D)
    (book : Booked)
    (waiting : List (Announced × Reply)) : Type 0 where
  pub unmarked : is_marked book.items ≡ false
  pub due : HaveDueReplies book waiting
  pub next : AreNext book (tickets_in waiting)
  pub kept : Follow follows log
      → KeepsHistory (slots sight log) (marked_by book (asks_in waiting))
      (changing_of book (asks_in waiting))

-- no call waits any more, and there is room for as many calls as before
pub record IsEmptied (before behind : Group) : Type 0 where
  pub judged : behind.judged.items ≡ []
  pub changing : behind.changing.items ≡ []
  pub judged_room : deque_capacity behind.judged ≡ deque_capacity before.judged
  pub changing_room : deque_capacity behind.changing ≡ deque_capacity before.changing
