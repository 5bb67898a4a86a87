-- One turn more.
use Rattle.std.proofs.Common.{◌≡◌, List, [], ◌∷◌, ◌++◌, refl, ◌∙◌}
use Rattle.disk.specs.Sight.{Sight}
use Rattle.shard.specs.Shards.{Sharded}
use Rattle.shard.specs.Turns.{Turn}
use Rattle.shard.specs.Leads.{IsMade, Lead}

module _ {D : Type 0} (sight : D → Sight) (follows : D → Type 0) where
  pub lead_more : (start mid : Sharded D) (ts : List (Turn D)) (t : Turn D) → Lead sight follows start ts mid → t.old ≡ mid → IsMade sight follows t → Lead sight follows start (ts ++ t ∷ []) t.new
  lead_more start mid [] t h e made = (e ∙ h, made, refl)
  lead_more start mid (u ∷ ts) t h e made = (h.0, h.1, lead_more u.new mid ts t h.2 e made)
