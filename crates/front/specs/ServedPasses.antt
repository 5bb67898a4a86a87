-- What a server served by.
use Rattle.std.specs.Prelude.{◌≡◌, ℕ, Bool, false, List, Some, length, slice_get}
use Rattle.atomic_table.specs.Seated.{TableId}
use Rattle.accept.specs.declared.limits.Limits.{Limits}
use Rattle.history.specs.declared.views.About.{About}
use Rattle.history.specs.Handles.{Passed, fresh_pass}
use Rattle.answering.specs.Gathering.{known}
use Rattle.front.specs.Openings.{IsOverUntouched}
use Rattle.front.specs.Visits.{Visit, AreVisits}

module _ {C : Type 0} (ticks : C → ℕ → C → Type 0) where
  -- the pass with this number of an opening, which was fresh at first, as visits of connections left it
  abbrev pub IsServedPass : TableId → About → ℕ → Passed → Type 0
  IsServedPass table about number pass = (vs : List (Visit C)) × (doubt : Bool)
      × AreVisits ticks (known (fresh_pass table about number) false) vs (known pass doubt)

  -- There was an opening of this number of shards and of passes, under these limits, whose segments may have this many
  -- bytes. Nobody had made a call on the slots before it. Its passes were fresh, and these are what visits of connections
  -- left of them, in their order.
  pub record HasServed (limits : Limits) (shards workers capacity : ℕ) (left : List Passed)
      : Type 0 where
    pub table : TableId
    pub about : About
    pub limits_are : about.limits ≡ limits
    pub shards_are : about.shards ≡ shards
    pub capacity_is : about.capacity ≡ capacity
    pub passes_are : about.passes ≡ workers
    pub over : IsOverUntouched shards capacity about.bases
    pub count : length left ≡ workers
    pub served : (p : ℕ) (pass : Passed) → slice_get left p ≡ Some pass
        → IsServedPass table about p pass
