-- What the thread of a shard has.
use Rattle.std.specs.Prelude.{◌≡◌, ℕ, List}
use Rattle.std.specs.VecDeque.{deque_len}
use Rattle.disk.specs.Sight.{Sight}
use Rattle.keyed.specs.Queues.{sends_to, receives_as}
use Rattle.keyed.specs.declared.binding.Binding.TheVariants.{Bound}
use Rattle.shard.specs.Shards.{Sharded}
use Rattle.owners.specs.Openings.{Opening, home_of}
use Rattle.owners.specs.Places.{IsOf}
use Rattle.owners.specs.declared.owning.OwnerEnds.{OwnerEnds}
use Rattle.owners.specs.Mailboxes.{IsMailbox}
use Rattle.owners.specs.Lists.{AreEach}
use Rattle.owners.specs.Bonds.{AreBoundFrom}

-- the ends of shard k of the opening, and its mailbox, in which no call is
pub record HasEnds {D : Type 0} (k : ℕ) (ends : OwnerEnds D) : Type 0 where
  pub gets : receives_as ends.orders ≡ Bound (home_of ends.origin) k
  pub sends : AreBoundFrom (home_of ends.origin) ends.answers.items
  pub returns : sends_to ends.back ≡ Bound ends.origin k
  pub at_mailbox : IsMailbox (home_of ends.origin) k ends.mailbox
  pub idle : deque_len ends.mailbox.jobs ≡ 0

-- the same, of this opening
abbrev pub HasEndsOf : {D : Type 0} → Opening D → ℕ → OwnerEnds D → Type 0
HasEndsOf opening k ends = HasEnds k ends × (ends.origin ≡ opening)

-- so has each shard, by its number
abbrev pub AreEnds : {D : Type 0} → Opening D → List (OwnerEnds D) → Type 0
AreEnds opening = AreEach (HasEndsOf opening) 0

-- the same, and the shard is that of the opening
pub record IsOwner {D : Type 0} (sight : D → Sight) (follows : D → Type 0) (k : ℕ) (state : Sharded D)
    (ends : OwnerEnds D) : Type 0 where
  pub has_ends : HasEnds k ends
  pub is_of : IsOf sight follows ends.origin k state
