-- How long a request's body is, by its head.
use Rattle.std.specs.Prelude.{ℕ, Bool, ◌&&◌, List, [], ◌∷◌, length, bytes_eq, codes, nat_le, nat_lt, if◌then◌else◌}
use Rattle.std.specs.List.{list_all}
use Rattle.std.specs.Char.{is_ascii_digit}
use Rattle.std.specs.Str.Parse.{digits_value}
use Rattle.requests.specs.Fields.{Field, values_of, has_field}
use Rattle.requests.specs.declared.framing.Framing.{Framing}
use Rattle.requests.specs.declared.framing.Framing.TheVariants.{Length, Refused}
use Rattle.requests.specs.declared.fixed.FixedAnswer.TheVariants.{TransferEncoding, BadLength, LengthRequired, BodyTooLarge}

-- 1 to 19 decimal digits
unfoldable pub is_length : List ℕ → Bool
is_length value = nat_lt 0 (length value) && nat_le
    (length value) 19 && list_all is_ascii_digit value

-- the most bytes of a body: 4 MiB
abbrev pub max_body : ℕ
max_body = 4194304

-- the framing by the one value of Content-Length
abbrev pub framing_of_value : List ℕ → Framing
framing_of_value value =
    if is_length value then (if nat_le (digits_value 10 value) max_body then Length
    (digits_value 10 value)
    else Refused BodyTooLarge)
    else Refused BadLength

-- the framing by the values of Content-Length
abbrev pub framing_of_values : List ℕ → List (List ℕ) → Framing
framing_of_values method [] = if bytes_eq method
    (codes "POST") then Refused LengthRequired else Length 0
framing_of_values method (value ∷ []) = framing_of_value value
framing_of_values method (value ∷ second ∷ more) = Refused BadLength

-- how many bytes the body of a request with this method and these fields has, or how it is refused
abbrev pub framing_of : List ℕ → List Field → Framing
framing_of method fields =
    if has_field (codes "transfer-encoding") fields then Refused TransferEncoding
    else framing_of_values method (values_of (codes "content-length") fields)
