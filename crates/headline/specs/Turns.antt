-- A shard between its opening and its end: the turns that its owner made, and what a crash then leaves.
use Rattle.std.specs.Prelude.{◌≡◌, ◌⊎◌, ℕ, ◌≤◌, List, [], ◌∷◌, ◌++◌, drop, length, Some, slice_get}
use Rattle.headline.specs.Types.{Ask, Step, Item, Answered, Failed, Sight, Wal, Passed, Sharded, Turn, Opening}
use Rattle.wal.specs.Logs.{Follow, slots}
use Rattle.wal.specs.Opening.{slots_of}
use Rattle.history.specs.Histories.{IsBeginning, doubt_of, doubt_or, steps_by, asks_by}
use Rattle.history.specs.Plays.{seen_at, AreHis}
use Rattle.shard.specs.Groups.{changing_of}
use Rattle.shard.specs.Leads.{IsMade, Lead}
use Rattle.owners.specs.Places.{opened_shard}
use Rattle.headline.specs.Threads.{Thread}
use Rattle.headline.specs.Headline.{IsOneOf}

-- the calls whose steps stand in these items
abbrev pub calls_with_steps : List Item → List Ask
calls_with_steps [] = []
calls_with_steps (Answered s ∷ items) = s.ask ∷ calls_with_steps items
calls_with_steps (Failed doubt ∷ items) = calls_with_steps items

-- the calls that a turn makes: those of the steps that it adds. Jobs that come back are not among them.
abbrev pub made_in : {D : Type 0} → Turn D → List Ask
made_in t = calls_with_steps (drop (length t.old.book.items) t.new.book.items)

-- where the owner of a shard is: between two turns, or in the middle of one
pub data Moment (D : Type 0) : Type 0 where
  Between : Sharded D → Moment D
  Within : Turn D → Moment D

-- the turns that a shard made, and where its owner is then
pub record Stretch (D : Type 0) : Type 0 where
  pub turns : List (Turn D)
  pub moment : Moment D

-- the shard, without the turn that it is in
abbrev pub shard_then : {D : Type 0} → Moment D → Sharded D
shard_then (Between s) = s
shard_then (Within t) = t.old

-- the calls that are then being written: those in doubt by the mark, or those of the turn that change something
abbrev pub writing_then : {D : Type 0} → Moment D → List Ask
writing_then (Between s) = doubt_of s.book.items
writing_then (Within t) = doubt_or t.old.book.items (changing_of t.old.book (made_in t))

-- the calls of these steps
abbrev pub calls_of_steps : List Step → List Ask
calls_of_steps [] = []
calls_of_steps (s ∷ steps) = s.ask ∷ calls_of_steps steps

-- the calls of a pass that stand in these items, as steps and in the mark's list
abbrev pub calls_by : ℕ → List Item → List Ask
calls_by p items = calls_of_steps (steps_by p items) ++ asks_by p items

-- A pass and the book of shard k, which nobody compares where a crash comes, know one history and are in time: of what
-- the pass has seen and what stands in the book one begins the other, what it has seen stood there by then, and what
-- stands there of it, it had announced and not taken back.
pub record IsInTime (k : ℕ) (items : List Item) (pass : Passed) : Type 0 where
  pub one_history : IsBeginning (seen_at pass.caller k) items
      ⊎ IsBeginning items (seen_at pass.caller k)
  pub stood_when_seen : length (seen_at pass.caller k) ≤ length items
  pub announced_when_added : AreHis pass.caller.made pass.caller.pending
      (calls_by pass.caller.pass items)

module _ {D : Type 0} (sight : D → Sight) (follows : D → Type 0) where
  -- of a moment, what there is to say of the turn that it is in
  abbrev pub IsMoment : Moment D → Type 0
  IsMoment (Between s) = Unit {0}
  IsMoment (Within t) = IsMade sight follows t

  -- the disks have followed the model so far
  abbrev pub FollowThen : Moment D → Type 0
  FollowThen (Between s) = Follow follows s.log
  FollowThen (Within t) = Follow follows t.new.log

  -- Shard k from the opening on, in time with each of the passes.
  pub record IsStretch (opening : Opening D) (threads : List Thread) (k : ℕ)
      (st : Stretch D) : Type 0 where
    pub opened : Wal D
    pub opened_as : slice_get opening.logs k ≡ Some opened
    pub turned : Lead sight follows (opened_shard opening k opened) st.turns (shard_then st.moment)
    pub moment : IsMoment st.moment
    pub follow : FollowThen st.moment
    pub in_time : (t : Thread) → IsOneOf t threads
        → IsInTime k (shard_then st.moment).book.items t.end

  -- what a crash leaves of both slots: now, or at any moment from the turn's start on
  abbrev pub MayBeLeft : Moment D → List ℕ → List ℕ → Type 0
  MayBeLeft (Between s) a b = (slots sight s.log).first.may_leave a
      × (slots sight s.log).second.may_leave b
  MayBeLeft (Within t) a b = (slots sight t.new.log).first.left_since
      (slots sight t.old.log).first.moment a
      × (slots sight t.new.log).second.left_since (slots sight t.old.log).second.moment b

  -- slots of which only that may be left from now on
  pub record IsLeftThen (moment : Moment D) (left : List D) : Type 0 where
    pub crash : (a b : List ℕ) → (slots_of sight left).first.may_leave a
        → (slots_of sight left).second.may_leave b
        → MayBeLeft moment a b
