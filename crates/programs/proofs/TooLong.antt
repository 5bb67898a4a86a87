-- What is too much already comes to no duration, whatever follows.
use Rattle.std.proofs.Common.{◌≡◌, ℕ, ◌+◌, ◌-◌, ◌*◌, ◌<◌, ◌≤◌, true, false, List, [], ◌∷◌, Option, None, Some, length, drop, get_or, refl, sym, ap, ◌∙◌, add-one, drop-cons, arith}
use Rattle.std.specs.Prelude.{IfSome, if◌then◌else◌}
use Rattle.std.proofs.Math.Nat.{mul-le-mul_left}
use Rattle.accept.specs.OneStream.{end_of_time}
use Rattle.programs.specs.declared.durations.PartialDuration.{PartialDuration}
use Rattle.programs.specs.Durations.{unit_nanos, is_digit, number_or_zero, with_unit, read_byte, read_bytes, nanos_with, duration_after, IsNoDuration}

some_unit : (letter : ℕ) → IfSome (unit_nanos letter) (λ u. 1 ≤ u)
some_unit letter = grind (arith)

unit_lost : (nanos : ℕ) (number unit : Option ℕ) → IfSome unit (λ u. 1 ≤ u) → end_of_time ≤ nanos + number_or_zero number → IsNoDuration (with_unit nanos number unit)
unit_lost nanos None unit some much = tt
unit_lost nanos (Some number) None some much = tt
unit_lost nanos (Some number) (Some unit) some much = omega (arith, mul-le-mul_left number some)

byte_lost : (parts : PartialDuration) (byte : ℕ) → end_of_time ≤ parts.nanos + number_or_zero parts.number → IsNoDuration (read_byte parts byte)
byte_lost parts byte much =
    elim (is_digit byte) as (λ v. IsNoDuration (if v then Some (record { nanos = parts.nanos; number = Some (number_or_zero parts.number * 10 + (byte - 48)) }) else with_unit parts.nanos parts.number (unit_nanos byte))) [
      | true ↦ omega arith
      | false ↦ unit_lost parts.nanos parts.number (unit_nanos byte) (some_unit byte) much
    ]

end_lost : (nanos : ℕ) (number : Option ℕ) → end_of_time ≤ nanos + number_or_zero number → nanos_with nanos number ≡ None
end_lost nanos None much = grind (arith)
end_lost nanos (Some number) much = refl

pub lost : (parts : Option PartialDuration) (bytes : List ℕ) → IsNoDuration parts → duration_after (read_bytes parts bytes) ≡ None
lost None [] is = refl
lost None (byte ∷ bytes) is = lost None bytes tt
lost (Some parts) [] is = end_lost parts.nanos parts.number is
lost (Some parts) (byte ∷ bytes) is = lost (read_byte parts byte) bytes (byte_lost parts byte is)

-- one byte of a list more
cut : (parts : PartialDuration) (bytes : List ℕ) (i : ℕ) → i < length bytes → read_bytes (Some parts) (drop i bytes) ≡ read_bytes (read_byte parts (get_or bytes i 0)) (drop (i + 1) bytes)
cut parts bytes i within =
    let here : drop i bytes ≡ get_or bytes i 0 ∷ drop (i + 1) bytes = rw add-one (drop-cons bytes i 0 within) in
    ap (λ (l : List ℕ). read_bytes (Some parts) l) here

pub one_more : (parts more : PartialDuration) (bytes : List ℕ) (i : ℕ) (whole : Option ℕ) → i < length bytes → read_byte parts (get_or bytes i 0) ≡ Some more → duration_after (read_bytes (Some parts) (drop i bytes)) ≡ whole → duration_after (read_bytes (Some more) (drop (i + 1) bytes)) ≡ whole
one_more parts more bytes i whole within is before =
    sym (ap (λ (p : Option PartialDuration). duration_after (read_bytes p (drop (i + 1) bytes))) is) ∙ sym (ap duration_after (cut parts bytes i within)) ∙ before

pub none_more : (parts : PartialDuration) (bytes : List ℕ) (i : ℕ) (whole : Option ℕ) → i < length bytes → IsNoDuration (read_byte parts (get_or bytes i 0)) → duration_after (read_bytes (Some parts) (drop i bytes)) ≡ whole → None ≡ whole
none_more parts bytes i whole within is before =
    sym (lost (read_byte parts (get_or bytes i 0)) (drop (i + 1) bytes) is) ∙ sym (ap duration_after (cut parts bytes i within)) ∙ before
