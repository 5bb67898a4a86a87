-- Why slots are not opened, and what is given back.
use Rattle.std.specs.Prelude.{◌≡◌, ◌⊎◌, ℕ, List, [], ◌∷◌}
use Rattle.disk.specs.Sight.{Sight}
use Rattle.wal.specs.Moments.{HasNoFailure}
use Rattle.wal.specs.Opening.{slots_of}
use Rattle.openings.specs.declared.fault.LogsFault.{LogsFault}
use Rattle.openings.specs.declared.fault.LogsFault.TheVariants as causes
use Rattle.openings.specs.Findings.{AreReturned, IsFirstRefused}
use Rattle.ingester.specs.declared.refusal.OpenFault.{OpenFault}
use Rattle.ingester.specs.declared.refusal.OpenFault.TheVariants as faults

-- which refusal stands for which of the logs
abbrev pub refusal_of : LogsFault → OpenFault
refusal_of (causes.Refused shard fault) = faults.Refused shard fault
refusal_of causes.Memory = faults.Memory

-- no call on these slots has failed
abbrev pub AreUnfailed : {D : Type 0} → (D → Sight) → List (List D) → List (List D) → Type 0
AreUnfailed sight [] [] = Unit {0}
AreUnfailed sight (given ∷ all) (back ∷ backs) =
    HasNoFailure (slots_of sight given) (slots_of sight back) × AreUnfailed sight all backs
AreUnfailed sight all backs = ⊥

module _ {D : Type 0} (sight : D → Sight) (follows : D → Type 0) where
  -- All slots come back in their order, and this is why. Without memory they may be untouched, and no device has
  -- failed.
  abbrev pub IsUnmade : ℕ → List (List D) → List (List D) → OpenFault → Type 0
  IsUnmade count all backs (faults.Refused shard fault) =
      IsFirstRefused sight follows count shard fault all backs
  IsUnmade count all backs faults.Memory = (backs ≡ all)
      ⊎ (AreReturned sight follows all backs × AreUnfailed sight all backs)
  IsUnmade count all backs faults.Thread = backs ≡ all
