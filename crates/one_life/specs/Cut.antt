-- Two shards and two passes of an opening, until a crash cuts a turn.
use Rattle.std.specs.Prelude.{◌≡◌, ℕ, List, [], ◌∷◌, false, length, map, Ok, Err}
use Rattle.atomic_table.specs.Seated.{TableId}
use Rattle.headline.specs.Types.{Limits, Call, Reply, InDoubt, About, Sight, Follow, Sharded, Turn}
use Rattle.accept.specs.Histories.{key_of}
use Rattle.history.specs.Handles.{Announced, Booked, Passed, is_closed_pass, about_of, fresh_book, fresh_pass, with_seen, HaveMet}
use Rattle.history.specs.Histories.{step_of}
use Rattle.history.specs.Shards.{shard_of}
use Rattle.shard.specs.declared.group.Settled.{Settled}
use Rattle.shard.specs.declared.group.Settled.TheVariants.{Answered, GivenBack}
use Rattle.shard.specs.Leads.{IsMade}
use Rattle.owners.specs.Openings.{Opening, opening_of}
use Rattle.owners.specs.Places.{opened_shard}
use Rattle.openings.specs.Findings.{AreOpenedFrom}
use Rattle.ingester.specs.Calls.{IsGiven, with_next}
use Rattle.ingester.specs.Closings.{IsTold}
use Rattle.headline.specs.Threads.{What, Called, Met, Thread}
use Rattle.headline.specs.Turns.{Between, Within}
use Rattle.headline.specs.Lives.{Life, CutAt, IsLife}
use Rattle.one_life.specs.declared.opening.Two.{Two}
use Rattle.one_life.specs.declared.opening.Begun.{Begun}

-- among two shards the call belongs to shard k
abbrev pub IsOn : ℕ → Call → Type 0
IsOn k call = shard_of (key_of call) 2 ≡ k

-- the histories of two shards have begun, with a book of each and two passes
pub record HaveBegun (about : About) (it : Begun) : Type 0 where
  pub books : it.books ≡ (fresh_book it.history about 0, fresh_book it.history about 1)
  pub passes : it.passes ≡ (fresh_pass it.history about 0, fresh_pass it.history about 1)

-- a book of shard k of this opening
pub record IsBookOf (table : TableId) (about : About) (k : ℕ) (book : Booked) : Type 0 where
  pub same_table : book.table ≡ table
  pub same_about : book.about ≡ about
  pub number : book.shard ≡ k

-- a pass of this opening, which waits for no answer
pub record IsIdle (table : TableId) (about : About) (pass : Passed) : Type 0 where
  pub same_table : pass.table ≡ table
  pub same_about : pass.caller.about ≡ about
  pub idle : pass.caller.pending ≡ []

-- shard 0 and shard 1, and two passes, of this opening of two shards
pub record AreOfOpening {D : Type 0} (table : TableId) (about : About) (it : Two D) : Type 0 where
  pub two_shards : about.shards ≡ 2
  pub first : IsBookOf table about 0 it.first.book
  pub second : IsBookOf table about 1 it.second.book
  pub one : IsIdle table about it.one
  pub two : IsIdle table about it.two

-- what came of a ticket: its call has its step with this reply, or it came back
abbrev pub IsOfTicket : Announced → Settled → Type 0
IsOfTicket t (Answered reply receipt) = (receipt.table ≡ t.table)
    × (receipt.step ≡ step_of t.ask reply)
IsOfTicket t (GivenBack fault back) = back ≡ t

-- the opening of these shards, before their first turns
abbrev pub opening_with : {D : Type 0} → Two D → Opening D
opening_with it = opening_of it.first.book (it.first.opened ∷ it.second.opened ∷ [])

module _ {D : Type 0} (sight : D → Sight) (follows : D → Type 0) where
  -- Two shards of an opening over these slots, before any turn, and its two passes, which made no call.
  pub record AreOpened (limits : Limits) (capacity : ℕ) (slots : List (List D)) (opening : Opening D)
      (it : Two D) : Type 0 where
    pub two_shards : length slots ≡ 2
    pub shards : opening.about.shards ≡ length slots
    pub found : AreOpenedFrom sight follows (length slots) capacity 0 slots opening.logs
        opening.about.bases
    pub about : opening.about ≡ about_of opening.about.bases 2 limits capacity
    pub logs : opening.logs ≡ it.first.opened ∷ it.second.opened ∷ []
    pub first : it.first ≡ opened_shard opening 0 it.first.opened
    pub second : it.second ≡ opened_shard opening 1 it.second.opened
    pub one : it.one ≡ fresh_pass opening.table opening.about 0
    pub two : it.two ≡ fresh_pass opening.table opening.about 1

  -- A shard made a turn. In it a call of a pass got this reply, and the pass knows it.
  pub record IsMadeBy (old new : Sharded D) (was : Passed) (call : Call) (reply : Reply)
      (now : Passed) : Type 0 where
    pub turn : Turn D
    pub from : turn.old ≡ old
    pub to : turn.new ≡ new
    pub made : IsMade sight follows turn
    pub given : IsGiven was call (Ok reply) now

  -- Each pass made a call, by a turn of a shard of its own, and got this reply.
  pub record HaveCalled (old : Two D) (first second : Call) (replies : Reply × Reply)
      (new : Two D) : Type 0 where
    pub first_call : IsMadeBy old.first new.first old.one first replies.0 new.one
    pub second_call : IsMadeBy old.second new.second old.two second replies.1 new.two

  -- The passes met.
  pub record HaveMetIn (opening : Opening D) (called answered : Passed) (it : Two D) : Type 0 where
    pub one : it.one ≡ record called { caller = with_seen called.caller it.one.caller.seen }
    pub two : it.two ≡ record answered { caller = with_seen answered.caller it.two.caller.seen }
    pub met : HaveMet called.caller answered.caller opening.about.shards it.one.caller.seen
        it.two.caller.seen

  -- The first pass announced a call, and each shard was compared with each pass. Then the first shard made a turn.
  pub record IsCutTurn (old new : Two D) (call : Call) : Type 0 where
    pub «open» : is_closed_pass old.one ≡ false
    pub one : new.one ≡ with_next old.one call
    pub two : new.two ≡ old.two
    pub second : new.second ≡ old.second
    pub first_one : IsTold old.first.book.shard old.first.book.items new.one
    pub first_two : IsTold old.first.book.shard old.first.book.items new.two
    pub second_one : IsTold old.second.book.shard old.second.book.items new.one
    pub second_two : IsTold old.second.book.shard old.second.book.items new.two
    pub turn : Turn D
    pub from : turn.old ≡ old.first
    pub to : turn.new ≡ new.first
    pub made : IsMade sight follows turn

  -- This happened to a pass: one call was answered, then it met another.
  abbrev pub AreAnsweredAndMet : Call → Reply → List What → List What → Type 0
  AreAnsweredAndMet call reply after whats = (other : _) × (theirs : _)
      × (whats ≡ Called call (Ok reply) ∷ Met other theirs ∷ after)

  -- A life of an opening over these slots, where the disks have followed the model. Each of two passes had a call
  -- answered, and they met. Then a crash came at any moment of the turn that the first shard made for a further call,
  -- of whose outcome nobody learned. The second shard was between two turns.
  pub record IsCutOnce (given : List (List D)) (first second last : Call) (replies : Reply × Reply)
      (it : Two D) : Type 0 where
    pub life : Life D
    pub is_life : Follow follows it.first.log → Follow follows it.second.log
        → IsLife sight follows life
    pub given_are : life.given ≡ given
    pub cut : Turn D
    pub cut_is : cut.new ≡ it.first
    pub one : Turn D
    pub other : Turn D
    pub ends_are : life.ends
        ≡ CutAt (record { turns = one ∷ []; moment = Within cut })
        ∷ CutAt (record { turns = other ∷ []; moment = Between it.second }) ∷ []
    pub thread : Thread
    pub other_thread : Thread
    pub threads_are : life.threads ≡ thread ∷ other_thread ∷ []
    pub happened : AreAnsweredAndMet first replies.0 (Called last (Err InDoubt) ∷ [])
        (map (λ h. h.what) thread.happened)
    pub also_happened : AreAnsweredAndMet second replies.1 []
        (map (λ h. h.what) other_thread.happened)
