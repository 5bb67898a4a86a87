-- What readings of a clock give.
use Rattle.std.specs.Prelude.{ℕ, List, [], ◌∷◌, Option, None, Some, nat_lt, if◌then◌else◌}
use Rattle.accept.specs.OneStream.{end_of_time}

-- A note's number is the nanoseconds since 1970, and none where the clock gave no time.
abbrev pub reading_of : List ℕ → Option ℕ
reading_of [] = None
reading_of (nanos ∷ more) = Some nanos

-- the time by a reading: its nanoseconds where they are below 2^63, else what was told last
abbrev pub time_by : Option ℕ → ℕ → ℕ
time_by None last = last
time_by (Some nanos) last = if nat_lt nanos end_of_time then nanos else last
