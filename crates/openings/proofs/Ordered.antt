-- The slots of a log, given back in their order.
use Rattle.std.proofs.Common.{◌≡◌, List, [], ◌∷◌, Bool, true, false, refl, sym, subst}
use Rattle.std.specs.Prelude.{if◌then◌else◌}
use Rattle.disk.specs.Sight.{Sight}
use Rattle.segment.specs.ShardPlaces.{ShardPlace}
use Rattle.accept.specs.declared.limits.Limits.{Limits}
use Rattle.accept.specs.declared.history.Ask.{Ask}
use Rattle.accept.specs.declared.history.History.{History}
use Rattle.wal.specs.declared.log.Wal.{Wal}
use Rattle.wal.specs.Recovery.{is_even}
use Rattle.wal.specs.Moments.{pair, HasFailed, HasNoFailure}
use Rattle.wal.specs.Logs.{Follow, slots}
use Rattle.wal.specs.Covers.{Covers}
use Rattle.wal.specs.Opening.{slots_of, disks, AllFollow, PairRests}

module _ {D : Type 0} (sight : D → Sight) (follows : D → Type 0) where
  -- the slots of a log in their order
  pub record AreSlots (log : Wal D) (out : List D) : Type 0 where
    pub both : AllFollow follows out → Follow follows log
    pub covers : (owner : ShardPlace) (limits : Limits) (h : History) (doubt : List Ask) → Covers owner limits (slots sight log) h doubt → Covers owner limits (slots_of sight out) h doubt
    pub failed : (opened : Wal D) → HasFailed (slots sight opened) (slots sight log) → HasFailed (slots sight opened) (slots_of sight out)
    pub not_failed : (opened : Wal D) → HasNoFailure (slots sight opened) (slots sight log) → HasNoFailure (slots sight opened) (slots_of sight out)
    pub rests : (given : List D) → PairRests (slots_of sight given) (slots sight log) → PairRests (slots_of sight given) (slots_of sight out)

  in_order : (b : Bool) (log : Wal D) → is_even log.generation ≡ b → AreSlots log (if b then log.active ∷ log.spare ∷ [] else log.spare ∷ log.active ∷ [])
  in_order true log e = record {
    both = λ f. (f.0, f.1.0);
    covers = λ owner limits h doubt c. subst (λ (x : Bool). Covers owner limits (pair x (sight log.active) (sight log.spare)) h doubt) e c;
    failed = λ opened f. subst (λ (x : Bool). HasFailed (slots sight opened) (pair x (sight log.active) (sight log.spare))) e f;
    not_failed = λ opened f. subst (λ (x : Bool). HasNoFailure (slots sight opened) (pair x (sight log.active) (sight log.spare))) e f;
    rests = λ given r. subst (λ (x : Bool). PairRests (slots_of sight given) (pair x (sight log.active) (sight log.spare))) e r;
  }
  in_order false log e = record {
    both = λ f. (f.1.0, f.0);
    covers = λ owner limits h doubt c. subst (λ (x : Bool). Covers owner limits (pair x (sight log.active) (sight log.spare)) h doubt) e c;
    failed = λ opened f. subst (λ (x : Bool). HasFailed (slots sight opened) (pair x (sight log.active) (sight log.spare))) e f;
    not_failed = λ opened f. subst (λ (x : Bool). HasNoFailure (slots sight opened) (pair x (sight log.active) (sight log.spare))) e f;
    rests = λ given r. subst (λ (x : Bool). PairRests (slots_of sight given) (pair x (sight log.active) (sight log.spare))) e r;
  }

  pub ordered : (log : Wal D) (out : List D) → out ≡ disks log → AreSlots log out
  ordered log out e = subst (AreSlots log) (sym e) (in_order (is_even log.generation) log refl)
