use Rattle.std.specs.Prelude.{◌≡◌, ◌≤◌, ℕ}
use Rattle.memory_disk.specs.declared.plan.FaultPlan.{FaultPlan}
use Rattle.memory_disk.specs.declared.plan.FaultPlan.TheVariants.{Works, FailsIn, StopsIn}

-- the call with this number is to fail; the next one has number 1
abbrev pub IsAsked : FaultPlan → ℕ → Type 0
IsAsked Works k = ⊥
IsAsked (FailsIn n) k = k ≡ n
IsAsked (StopsIn n) k = n ≤ k
