-- Times as bodies write them.
use Rattle.std.specs.Prelude.{ℕ, ◌≤◌, ◌<◌, List, length}
use Rattle.std.specs.Str.Parse.{IsNumeral, digits_value}
use Rattle.accept.specs.OneStream.{end_of_time}

-- 1 to 19 decimal digits of a value below 2^63
unfoldable pub IsTime : List ℕ → Type 0
IsTime text = IsNumeral 10 text × (length text ≤ 19) × (digits_value 10 text < end_of_time)
