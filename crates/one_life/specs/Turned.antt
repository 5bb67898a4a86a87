-- What the public calls of a shard promise of one turn.
use Rattle.std.specs.Prelude.{◌≡◌, [], ◌∷◌}
use Rattle.headline.specs.Types.{Sight, Follow, Passed, Turn, Opening}
use Rattle.headline.specs.Threads.{Thread}
use Rattle.headline.specs.Turns.{Between, Within, IsStretch}

-- The first turn of the only shard of an opening, with its book compared with a pass before it and after it. A crash
-- may cut it at any moment of the turn, or between it and the next: this is a stretch, where the disks have followed
-- the model.
pub record IsTurnedOnce {D : Type 0} (sight : D → Sight) (follows : D → Type 0)
    (opening : Opening D) (t : Turn D) (pass : Passed) : Type 0 where
  pub within : Follow follows t.new.log → (thread : Thread) → thread.end ≡ pass
      → IsStretch sight follows opening (thread ∷ []) 0
      (record { turns = []; moment = Within t })
  pub between : Follow follows t.new.log → (thread : Thread) → thread.end ≡ pass
      → IsStretch sight follows opening (thread ∷ []) 0
      (record { turns = t ∷ []; moment = Between t.new })
