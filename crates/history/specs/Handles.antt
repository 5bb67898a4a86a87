-- What contracts see of books, passes, tickets and receipts.
use Rattle.std.specs.Prelude.{◌≡◌, ℕ, zero, suc, ◌+◌, ◌<◌, ◌≤◌, ◌==◌, ◌||◌, List, [], ◌∷◌, ◌++◌, Bool, true, false, length, if◌then◌else◌, slice_index_or}
use Rattle.atomic_table.specs.Seated.{TableId}
use Rattle.atomic_table.specs.declared.shared.Seat.{Seat}
use Rattle.history.specs.Types.{Streams, Limits, Call, Read, Unavailable, Ask, Step, Item, Answered, History, About, Caller, Shelf, View, Role, Nobody, Opener, Keeps, Calls, Token, Nothing, Open, Done}
use Rattle.history.specs.Histories.{history_of, shard_in, step_of, bound, max_open}
use Rattle.history.specs.Rule.{alone, unnamed, newcomer}
use Rattle.history.specs.Plays.{seen_at, ask_of, before_of, announce_to, IsMeeting}

-- a shard's history, in the table of this name
pub record Booked : Type 0 where
  pub table : TableId
  pub about : About
  pub shard : ℕ
  pub items : List Item

-- an announced call without a step, and whether it is in doubt
pub record Announced : Type 0 where
  pub table : TableId
  pub ask : Ask
  pub doubted : Bool
  -- the pass's calls to this shard that were open when it was announced
  pub before : List Ask

-- a step, the history up to it, and what the clocks of the shard's two slots said
pub record Received : Type 0 where
  pub table : TableId
  pub step : Step
  pub upto : List Item
  pub moment : ℕ × ℕ

-- what a pass has seen, made and announced, in the table of this name, and whether it was closed
pub record Passed : Type 0 where
  pub table : TableId
  pub caller : Caller
  pub closed : Bool

-- the history of a book over what the opening found
abbrev pub history_in : Booked → History
history_in book = history_of book.about book.shard book.items

-- the book with one item more
abbrev pub longer : Booked → Item → Booked
longer book item = record book { items = book.items ++ item ∷ [] }

-- the pass announces no call any more
abbrev pub is_closed_pass : Passed → Bool
is_closed_pass pass = pass.closed || (pass.caller.last + 1 == bound)

-- what stands where a seat has none
abbrev pub no_about : About
no_about = unnamed (record { shards = 0; passes = 0 })

abbrev pub no_ask : Ask
no_ask = record { pass = 0; number = 0; call = Read (record { tenant = []; labels = [] }) 0 0 }

-- the parts of the call in hand, and of the role
abbrev pub ask_in : Token → Ask
ask_in Nothing = no_ask
ask_in (Open a f e) = a
ask_in (Done s upto at) = s.ask

abbrev pub doubt_in : Token → Bool
doubt_in (Open a f e) = f
doubt_in hand = false

abbrev pub before_in : Token → List Ask
before_in (Open a f e) = e
before_in hand = []

abbrev pub step_in : Token → Step
step_in (Done s upto at) = s
step_in hand = step_of no_ask Unavailable

abbrev pub upto_in : Token → List Item
upto_in (Done s upto at) = upto
upto_in hand = []

abbrev pub moment_in : Token → ℕ × ℕ
moment_in (Done s upto at) = at
moment_in hand = (0, 0)

abbrev pub shelf_in : Role → Shelf
shelf_in (Keeps shelf) = shelf
shelf_in role = record { about = no_about; shard = 0; items = []; doubt = [] }

abbrev pub caller_in : Role → Caller
caller_in (Calls c) = c
caller_in role = newcomer no_about 0

-- what contracts see of a ticket
abbrev pub announced : Seat Unit View → Announced
announced s =
    record {
      table = s.table_id;
      ask = ask_in s.me.0.hand;
      doubted = doubt_in s.me.0.hand;
      before = before_in s.me.0.hand;
    }

-- the seat has an open call in hand, with this number, of this pass
abbrev pub IsTicket : Seat Unit View → ℕ → ℕ → Type 0
IsTicket s n p =
    let hand = s.me.0.hand in
    (s.me ≡ (alone Nobody (Open (ask_in hand) (doubt_in hand) (before_in hand)), []))
    × ((ask_in hand).number ≡ n) × ((ask_in hand).pass ≡ p)

-- what contracts see of a receipt
abbrev pub received : Seat Unit View → Received
received s =
    record {
      table = s.table_id;
      step = step_in s.me.0.hand;
      upto = upto_in s.me.0.hand;
      moment = moment_in s.me.0.hand;
    }

-- the seat has a call with its step in hand, with this number, of this pass
abbrev pub IsReceipt : Seat Unit View → ℕ → ℕ → Type 0
IsReceipt s n p =
    let hand = s.me.0.hand in
    (s.me ≡ (alone Nobody (Done (step_in hand) (upto_in hand) (moment_in hand)), []))
    × ((step_in hand).ask.number ≡ n) × ((step_in hand).ask.pass ≡ p)

-- what contracts see of a book
abbrev pub booked : Seat Unit View → Booked
booked s = let shelf = shelf_in s.me.0.role in
    record { table = s.table_id; about = shelf.about; shard = shelf.shard; items = shelf.items }

-- the seat is the book of this shard, in this table
abbrev pub IsBook : TableId → ℕ → Seat Unit View → Type 0
IsBook table shard s =
    let shelf = shelf_in s.me.0.role in
    (s.table_id ≡ table) × (shelf.shard ≡ shard) × (shard < shelf.about.shards)
    × (table.words ≡ shelf.about.shards + shelf.about.passes)
    × (s.me ≡ (alone (Keeps shelf) Nothing, [])) × (shelf.doubt ≡ [])

-- what contracts see of a pass
abbrev pub passed : Seat Unit View → Bool → Passed
passed s closed = record { table = s.table_id; caller = caller_in s.me.0.role; closed = closed }

-- the seat is a pass with this word, of this many shards, which has used numbers up to the last, and has this many open
-- calls
abbrev pub IsPass : Seat Unit View → ℕ → ℕ → ℕ → ℕ → Type 0
IsPass s shards word last calls =
    let c = caller_in s.me.0.role in
    (s.me ≡ (alone (Calls c) Nothing, [])) × (c.last ≡ last) × (c.about.shards ≡ shards)
    × (shards + c.pass ≡ word)
    × (shards + c.about.passes ≡ s.table_id.words)
    × (c.pass < c.about.passes) × (last < bound) × (0 < shards) × (length c.seen ≡ shards)
    × (length c.pending ≡ calls)
    × (calls ≤ max_open)

-- the history with the next call of a pass answered `Unavailable`
abbrev pub refused_by : List Item → Caller → Call → List Item
refused_by items c call = items ++ Answered (step_of (ask_of c (c.last + 1) call) Unavailable) ∷ []

-- the ticket of a call that a pass announces under a number
abbrev pub ticket_for : TableId → Caller → ℕ → Call → Announced
ticket_for table c n call = record {
  table = table;
  ask = ask_of c n call;
  doubted = false;
  before = before_of c n call;
}

-- the tickets of calls that a pass announces one after another
abbrev pub tickets_announced : TableId → Caller → List Call → List Announced
tickets_announced table c [] = []
tickets_announced table c (call ∷ calls) =
    ticket_for table c (c.last + 1) call
    ∷ tickets_announced table (announce_to c (c.last + 1) call) calls

-- those of these tickets that are shard k's
abbrev pub tickets_on : About → ℕ → List Announced → List Announced
tickets_on about k [] = []
tickets_on about k (t ∷ ts) =
    if k == shard_in about t.ask then t ∷ tickets_on about k ts else tickets_on about k ts

-- each ticket names just the calls in front of it
abbrev pub AreInLine : List Ask → List Announced → Type 0
AreInLine front [] = Unit {0}
AreInLine front (t ∷ ts) = (t.before ≡ front) × AreInLine (front ++ t.ask ∷ []) ts

-- the opening of these bases
abbrev pub about_of : List Streams → ℕ → Limits → ℕ → About
about_of bases passes limits capacity =
    record {
      shards = length bases;
      passes = passes;
      limits = limits;
      capacity = capacity;
      bases =
          bases;
    }

abbrev pub about_in : Role → About
about_in (Opener about a b) = about
about_in role = no_about

abbrev pub fresh_book : TableId → About → ℕ → Booked
fresh_book table about k = record { table = table; about = about; shard = k; items = [] }

abbrev pub fresh_pass : TableId → About → ℕ → Passed
fresh_pass table about p = record { table = table; caller = newcomer about p; closed = false }

-- the books of the shards below n, and the passes below n
abbrev pub fresh_books : TableId → About → ℕ → List Booked
fresh_books table about zero = []
fresh_books table about (suc n) = fresh_books table about n ++ fresh_book table about n ∷ []

abbrev pub fresh_passes : TableId → About → ℕ → List Passed
fresh_passes table about zero = []
fresh_passes table about (suc n) = fresh_passes table about n ++ fresh_pass table about n ∷ []

-- the calls of these tickets
abbrev pub asks_of : List Announced → List Ask
asks_of [] = []
asks_of (t ∷ ts) = t.ask ∷ asks_of ts

abbrev pub doubted : Announced → Announced
doubted t = record t { doubted = true }

-- the first n tickets put in doubt
abbrev pub doubted_to : ℕ → List Announced → List Announced
doubted_to zero ts = ts
doubted_to (suc n) [] = []
doubted_to (suc n) (t ∷ ts) = doubted t ∷ doubted_to n ts

-- each ticket is of the book's table and shard
abbrev pub AreOf : Booked → List Announced → Type 0
AreOf book [] = Unit {0}
AreOf book (t ∷ ts) = (t.table ≡ book.table) × (shard_in book.about t.ask ≡ book.shard)
    × AreOf book ts

abbrev pub with_doubt : Shelf → List Ask → Shelf
with_doubt shelf doubt = record shelf { doubt = doubt }

abbrev pub with_seen : Caller → List (List Item) → Caller
with_seen c seen = record c { seen = seen }

-- two passes in one seat
abbrev pub pair_of : Caller → Caller → View
pair_of c d = record { role = Calls c; guest = Calls d; hand = Nothing }

-- two passes have looked together at the shards below n
pub record HaveMet (c d : Caller) (n : ℕ) (lc ld : List (List Item)) : Type 0 where
  pub first_length : length lc ≡ length c.seen
  pub second_length : length ld ≡ length d.seen
  -- where both see one history
  pub below : (k : ℕ) → k < n → IsMeeting c d k (slice_index_or lc k [])
      × (slice_index_or ld k [] ≡ slice_index_or lc k [])
  pub first_above : (k : ℕ) → n ≤ k → slice_index_or lc k [] ≡ seen_at c k
  pub second_above : (k : ℕ) → n ≤ k → slice_index_or ld k [] ≡ seen_at d k
