-- Parts that are written are read as they are meant.
use Rattle.std.proofs.Common.{◌≡◌, ℕ, suc, ◌+◌, ◌-◌, ◌*◌, ◌<◌, ◌≤◌, List, [], ◌∷◌, ◌++◌, Option, None, Some, length, get_or, refl, ap, ◌∙◌, arith}
use Rattle.std.specs.Char.{digit_value}
use Rattle.std.specs.Str.Parse.{IsNumeral, digits_value, digits_value_after}
use Rattle.std.proofs.lemmas.Str.{digit_value_digit}
use Rattle.std.proofs.lemmas.Str.Parse.{digit_at}
use Rattle.programs.specs.declared.durations.PartialDuration.{PartialDuration}
use Rattle.programs.specs.Durations.{NumberWithUnit, text_of_parts, nanos_of_parts, unit_nanos, number_or_zero, read_byte, read_bytes, nanos_with, duration_after, duration_of}

abbrev AreDigits : List ℕ → Type 0
AreDigits ds = (i : ℕ) → i < length ds → (48 ≤ get_or ds i 0) × (get_or ds i 0 ≤ 57)

digit_read : (parts : PartialDuration) (d : ℕ) → 48 ≤ d → d ≤ 57 → read_byte parts d ≡ Some (record { nanos = parts.nanos; number = Some (number_or_zero parts.number * 10 + (d - 48)) })
digit_read parts d low high = grind (arith)

unit_read : (nanos number letter unit : ℕ) → unit_nanos letter ≡ Some unit → read_byte (record { nanos = nanos; number = Some number }) letter ≡ Some (record { nanos = number * unit + nanos; number = None })
unit_read nanos number letter unit is = grind (arith)

value_of : (d : ℕ) → 48 ≤ d → d ≤ 57 → d - 48 ≡ digit_value d
value_of d low high = omega (arith, digit_value_digit d (low, high))

digits_read : (nanos n : ℕ) (ds rest : List ℕ) → AreDigits ds → read_bytes (Some (record { nanos = nanos; number = Some n })) (ds ++ rest) ≡ read_bytes (Some (record { nanos = nanos; number = Some (digits_value_after 10 n ds) })) rest
digits_read nanos n [] rest are = refl
digits_read nanos n (d ∷ ds) rest are =
    let here = are 0 (omega arith) in
    let one : read_byte (record { nanos = nanos; number = Some n }) d ≡ Some (record { nanos = nanos; number = Some (n * 10 + digit_value d) }) =
    digit_read (record { nanos = nanos; number = Some n }) d here.0 here.1 ∙ ap (λ (v : ℕ). Some (record { nanos = nanos; number = Some (n * 10 + v) })) (value_of d here.0 here.1) in
    ap (λ (p : Option PartialDuration). read_bytes p (ds ++ rest)) one ∙ digits_read nanos (n * 10 + digit_value d) ds rest (λ i l. are (suc i) (omega arith))

number_read : (nanos : ℕ) (ds rest : List ℕ) → 0 < length ds → AreDigits ds → read_bytes (Some (record { nanos = nanos; number = None })) (ds ++ rest) ≡ read_bytes (Some (record { nanos = nanos; number = Some (digits_value 10 ds) })) rest
number_read nanos [] rest some are = absurd (omega arith)
number_read nanos (d ∷ ds) rest some are =
    let here = are 0 (omega arith) in
    let one : read_byte (record { nanos = nanos; number = None }) d ≡ Some (record { nanos = nanos; number = Some (0 * 10 + digit_value d) }) =
    digit_read (record { nanos = nanos; number = None }) d here.0 here.1 ∙ ap (λ (v : ℕ). Some (record { nanos = nanos; number = Some (0 * 10 + v) })) (value_of d here.0 here.1) in
    ap (λ (p : Option PartialDuration). read_bytes p (ds ++ rest)) one ∙ digits_read nanos (0 * 10 + digit_value d) ds rest (λ i l. are (suc i) (omega arith))

are_digits : (ds : List ℕ) → IsNumeral 10 ds → AreDigits ds
are_digits ds is i within = digit_at ds i is.1 within

parts_read : (nanos : ℕ) (parts : List NumberWithUnit) → read_bytes (Some (record { nanos = nanos; number = None })) (text_of_parts parts) ≡ Some (record { nanos = nanos_of_parts parts + nanos; number = None })
parts_read nanos [] = ap (λ (n : ℕ). Some (record { nanos = n; number = None })) (omega arith)
parts_read nanos (part ∷ parts) =
    let value = digits_value 10 part.digits in
    number_read nanos part.digits (part.letter ∷ text_of_parts parts) part.is_number.0 (are_digits part.digits part.is_number)
    ∙ ap (λ (p : Option PartialDuration). read_bytes p (text_of_parts parts)) (unit_read nanos value part.letter part.unit part.is_unit)
    ∙ parts_read (value * part.unit + nanos) parts
    ∙ ap (λ (n : ℕ). Some (record { nanos = n; number = None })) (omega arith)

-- a text of two bytes or more
long : (ds : List ℕ) (letter : ℕ) (rest : List ℕ) → 0 < length ds → duration_of (ds ++ letter ∷ rest) ≡ duration_after (read_bytes (Some (record { nanos = 0; number = None })) (ds ++ letter ∷ rest))
long [] letter rest some = absurd (omega arith)
long (d ∷ []) letter rest some = refl
long (d ∷ e ∷ ds) letter rest some = refl

pub written_read : (part : NumberWithUnit) (parts : List NumberWithUnit) → duration_of (text_of_parts (part ∷ parts)) ≡ nanos_with (nanos_of_parts (part ∷ parts)) None
written_read part parts =
    long part.digits part.letter (text_of_parts parts) part.is_number.0
    ∙ ap duration_after (parts_read 0 (part ∷ parts))
    ∙ ap (λ (n : ℕ). nanos_with n None) (omega arith)
