-- Slots that were handed out end a stretch: nobody has to say which turns were made.
use Rattle.std.proofs.Common.{ℕ, List, Bool, subst}
use Rattle.headline.proofs.Common.{Sight, Opening, AllFollow, IsHandedOut, Thread, last_passes, Between, IsInTime, IsStretch}
use Rattle.openings.proofs.Ordered.{ordered}
use Rattle.headline.proofs.Owning.{in_time_told}
use Rattle.headline.proofs.Saying.{end_among}

module _ {D : Type 0} (sight : D → Sight) (follows : D → Type 0) where
  pub handed_stretch : (opening : Opening D) (threads : List Thread) (k : ℕ) (it : List D × Bool) (h : IsHandedOut sight follows opening (last_passes threads) k it) → AllFollow follows it.0
      → IsStretch sight follows opening threads k (record { turns = h.turns; moment = Between h.shard })
  handed_stretch opening threads k it h f = record {
    opened = h.opened;
    opened_as = h.opened_as;
    turned = h.turned;
    moment = tt;
    follow = (ordered sight follows h.shard.log it.0 h.slots_are).both f;
    in_time = λ t one. let i = end_among t threads one in subst (λ l. IsInTime k l t.end) h.items_are (in_time_told t.end k h.items (h.told i.0 t.end i.1));
  }
