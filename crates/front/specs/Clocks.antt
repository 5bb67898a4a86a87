-- What the programs' clock tells.
use Rattle.std.specs.Prelude.{◌≡◌, ℕ, List, [], ◌∷◌, Option}
use Rattle.front.specs.Readings.{time_by}
use Rattle.front.specs.declared.clock.SystemClock.{SystemClock}

module _ {R : Type 0} where
  -- what the system's clock gave at each reading so far, the last first
  abbrev pub readings_of : SystemClock R → List (Option ℕ)
  readings_of clock = clock.system.noted.given

  -- it was not read, and tells 0 at first
  pub record IsUnread (clock : SystemClock R) : Type 0 where
    pub no_reading : readings_of clock ≡ []
    pub zero : clock.last ≡ 0

  -- the system's clock was read once more, and this is told: what it gave, or what was told last
  pub record IsTick (before : SystemClock R) (time : ℕ) (after : SystemClock R) : Type 0 where
    pub reading : Option ℕ
    pub read : readings_of after ≡ reading ∷ readings_of before
    pub told : time ≡ time_by reading before.last
    pub kept : after.last ≡ time
