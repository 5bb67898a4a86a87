-- Durations, as Loki's settings write them: whole numbers in decimal digits, each with its unit after it.
use Rattle.std.specs.Prelude.{◌≡◌, ◌++◌, ℕ, ◌+◌, ◌-◌, ◌*◌, ◌^◌, ◌≤◌, ◌==◌, ◌&&◌, nat_le, nat_lt, if◌then◌else◌, Bool, List, [], ◌∷◌, Option, None, Some}
use Rattle.std.specs.Str.Parse.{IsNumeral, digits_value}
use Rattle.accept.specs.OneStream.{end_of_time}
use Rattle.programs.specs.declared.durations.PartialDuration.{PartialDuration}

-- the nanoseconds of a second, a minute, an hour, a day and a week, by the code of the letter
abbrev pub unit_nanos : ℕ → Option ℕ
unit_nanos letter =
    if letter == 115 then Some (10 ^ 9)
    else if letter == 109 then Some (60 * 10 ^ 9)
    else if letter == 104 then Some (3600 * 10 ^ 9)
    else if letter == 100 then Some (24 * 3600 * 10 ^ 9)
    else if letter == 119 then Some (7 * 24 * 3600 * 10 ^ 9)
    else None

abbrev pub is_digit : ℕ → Bool
is_digit byte = nat_le 48 byte && nat_le byte 57

-- a number, or 0 where there is none
abbrev pub number_or_zero : Option ℕ → ℕ
number_or_zero None = 0
number_or_zero (Some number) = number

-- nothing is read so far
abbrev pub nothing_read : PartialDuration
nothing_read = record { nanos = 0; number = None }

-- a number and its unit, which are to be there, and what was read before them
abbrev pub with_unit : ℕ → Option ℕ → Option ℕ → Option PartialDuration
with_unit nanos None unit = None
with_unit nanos (Some number) None = None
with_unit nanos (Some number) (Some unit) = Some (record { nanos = number * unit + nanos; number = None })

-- what is read with one more byte: a digit of a number, or its unit
abbrev pub read_byte : PartialDuration → ℕ → Option PartialDuration
read_byte parts byte =
    if is_digit byte
    then Some (record { nanos = parts.nanos; number = Some (number_or_zero parts.number * 10 + (byte - 48)) })
    else with_unit parts.nanos parts.number (unit_nanos byte)

abbrev pub read_next : Option PartialDuration → ℕ → Option PartialDuration
read_next None byte = None
read_next (Some parts) byte = read_byte parts byte

-- what is read with more bytes
abbrev pub read_bytes : Option PartialDuration → List ℕ → Option PartialDuration
read_bytes parts [] = parts
read_bytes parts (byte ∷ bytes) = read_bytes (read_next parts byte) bytes

-- all nanoseconds, where each number has its unit, and where they are few enough for a time
abbrev pub nanos_with : ℕ → Option ℕ → Option ℕ
nanos_with nanos None = if nat_lt nanos end_of_time then Some nanos else None
nanos_with nanos (Some number) = None

abbrev pub duration_after : Option PartialDuration → Option ℕ
duration_after None = None
duration_after (Some parts) = nanos_with parts.nanos parts.number

-- the nanoseconds that a text writes: nothing but a 0, or numbers with their units
abbrev pub duration_of : List ℕ → Option ℕ
duration_of [] = None
duration_of (byte ∷ []) = if byte == 48 then Some 0 else None
duration_of (first ∷ second ∷ bytes) = duration_after (read_bytes (Some nothing_read) (first ∷ second ∷ bytes))

-- No duration comes of this: it is none, or its nanoseconds or its number are too many already.
abbrev pub IsNoDuration : Option PartialDuration → Type 0
IsNoDuration None = Unit {0}
IsNoDuration (Some parts) = end_of_time ≤ parts.nanos + number_or_zero parts.number

-- A number in decimal digits, and its unit with the unit's nanoseconds.
pub record NumberWithUnit : Type 0 where
  pub digits : List ℕ
  pub letter : ℕ
  pub unit : ℕ
  pub is_number : IsNumeral 10 digits
  pub is_unit : unit_nanos letter ≡ Some unit

-- parts as they are written, one after another
abbrev pub text_of_parts : List NumberWithUnit → List ℕ
text_of_parts [] = []
text_of_parts (part ∷ parts) = part.digits ++ part.letter ∷ text_of_parts parts

-- the nanoseconds of all parts
abbrev pub nanos_of_parts : List NumberWithUnit → ℕ
nanos_of_parts [] = 0
nanos_of_parts (part ∷ parts) = digits_value 10 part.digits * part.unit + nanos_of_parts parts
