-- What the public calls of an ingester promise of a small life.
use Rattle.std.specs.Prelude.{◌≡◌, List, [], ◌∷◌, Bool, map, Result}
use Rattle.headline.specs.Types.{Call, Reply, CallFault, Sight}
use Rattle.wal.specs.Opening.{AllFollow}
use Rattle.headline.specs.Threads.{Called, happened_to}
use Rattle.headline.specs.Lives.{Life, HandedOut, IsLife}

-- a life of an opening over these slots, where the disks have followed the model: this one call was made, this came of
-- it, and this was handed out
pub record IsLivedOnce {D : Type 0} (sight : D → Sight) (follows : D → Type 0)
    (given : List (List D)) (call : Call)
    (outcome : Result Reply CallFault)
    (handed : List D × Bool) : Type 0 where
  pub life : Life D
  pub is_life : AllFollow follows handed.0 → IsLife sight follows life
  pub given_are : life.given ≡ given
  pub ends_are : life.ends ≡ HandedOut handed ∷ []
  pub happened : map (λ h. h.what) (happened_to life.threads) ≡ Called call outcome ∷ []
