-- What the variables of the environment give.
use Rattle.std.specs.Prelude.{ℕ, ◌*◌, ◌/◌, ◌^◌, nat_le, if◌then◌else◌, Option, None, Some, String, string_bytes}
use Rattle.std.specs.declared.alloc.Global.{Global}
use Rattle.accept.specs.declared.limits.Limits.{Limits}
use Rattle.accept.specs.OneStream.{max_line}
use Rattle.programs.specs.declared.environment.Environment.{Environment}
use Rattle.programs.specs.declared.environment.LimitSetting.{LimitSetting}
use Rattle.programs.specs.declared.environment.LimitSetting.TheVariants.{MaxChunkAge, RejectOldSamplesMaxAge, CreationGracePeriod}
use Rattle.programs.specs.Durations.{duration_of}

-- a variable's text
abbrev pub text_of : Environment → LimitSetting → Option (String Global)
text_of environment MaxChunkAge = environment.max_chunk_age
text_of environment RejectOldSamplesMaxAge = environment.reject_old_samples_max_age
text_of environment CreationGracePeriod = environment.creation_grace_period

-- the nanoseconds where a variable is not set: two hours, seven days, ten minutes
abbrev pub unset_of : LimitSetting → ℕ
unset_of MaxChunkAge = 2 * 3600 * 10 ^ 9
unset_of RejectOldSamplesMaxAge = 7 * 24 * 3600 * 10 ^ 9
unset_of CreationGracePeriod = 600 * 10 ^ 9

-- the fewest nanoseconds that a variable may give
abbrev pub least_of : LimitSetting → ℕ
least_of MaxChunkAge = 0
least_of RejectOldSamplesMaxAge = 1
least_of CreationGracePeriod = 1

-- a number that is not below this one
abbrev pub at_least : ℕ → Option ℕ → Option ℕ
at_least least None = None
at_least least (Some number) = if nat_le least number then Some number else None

abbrev pub given_by : ℕ → ℕ → Option (String Global) → Option ℕ
given_by least unset None = Some unset
given_by least unset (Some text) = at_least least (duration_of (string_bytes text))

-- the nanoseconds that a variable gives; None where its text is none that it may have
abbrev pub limit_of : Environment → LimitSetting → Option ℕ
limit_of environment setting =
    given_by (least_of setting) (unset_of setting) (text_of environment setting)

abbrev pub limits_by : Option ℕ → Option ℕ → Option ℕ → Option Limits
limits_by (Some age) (Some old) (Some ahead) =
    Some (record { line = max_line; half_age = age / 2; max_old = old; max_ahead = ahead })
limits_by age old ahead = None

-- the limits that the environment gives: None where one of its texts gives none
abbrev pub limits_of : Environment → Option Limits
limits_of environment =
    limits_by (limit_of environment MaxChunkAge) (limit_of environment RejectOldSamplesMaxAge)
    (limit_of environment CreationGracePeriod)
