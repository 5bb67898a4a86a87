-- How much the tree of a body is made of, and when that is too much.
use Rattle.std.specs.Prelude.{◌≡◌, ⊤, ℕ, ◌+◌, List, [], ◌∷◌, length, Bool, true, false, ◌||◌, ◌&&◌, nat_lt, nat_le, if◌then◌else◌, IsUtf8, Result, Ok, Err}
use Rattle.memchr.specs.Find.{is_byte, places}
use Rattle.json.specs.Token.{Token, begin_object, end_object, begin_array, end_array, key, string, number, boolean, null, bad}
use Rattle.json.specs.Lex.{tokens}
use Rattle.pushjson.specs.declared.parts.Count.{Count}
use Rattle.pushjson.specs.declared.fault.PushFault.{PushFault}
use Rattle.pushjson.specs.declared.fault.PushFault.TheVariants.{NotJson, WrongShape, BadTime, TooManyEntries, TooManyParts, Memory}

abbrev pub no_parts : Count
no_parts = record { objects = 0; elements = 0; after_key = false }

-- a value begins, with so many objects. It is an element where no key is before it
abbrev pub with_value : Count → ℕ → Count
with_value c objects = record {
  objects = c.objects + objects;
  elements = if c.after_key then c.elements else c.elements + 1;
  after_key = false;
}

abbrev pub with_key : Bool → Count → Count
with_key is c = record { objects = c.objects; elements = c.elements; after_key = is }

abbrev pub with_token : Count → Token → Count
with_token c begin_object = with_value c 1
with_token c end_object = with_key false c
with_token c begin_array = with_value c 0
with_token c end_array = with_key false c
with_token c (key s) = with_key true c
with_token c (string s) = with_value c 0
with_token c (number s) = with_value c 0
with_token c (boolean b) = with_value c 0
with_token c null = with_value c 0
with_token c bad = with_key false c

-- more objects or elements than those of 10,000 streams and 10,000 entries with metadata, and of the body itself
abbrev pub is_over : Count → Bool
is_over c = nat_lt 30001 c.objects || nat_lt 50001 c.elements

-- some of the tokens, from the first on, are too many behind those that were counted
abbrev pub goes_over : Count → List Token → Bool
goes_over c [] = false
goes_over c (t ∷ ts) = is_over (with_token c t) || goes_over (with_token c t) ts

abbrev pub signs : ℕ → List ℕ → ℕ
signs byte text = length (places (is_byte byte) text)

-- `{`, or `[` and `,`, in texts too, stand there as often as they do at least where there is too much
abbrev pub may_have_too_many : List ℕ → Bool
may_have_too_many text = nat_lt 30001 (signs 123 text) || nat_le 50001 (signs 91 text + signs 44 text)

-- more than 256 KiB, and too many parts
abbrev pub has_too_many : List ℕ → Bool
has_too_many text = nat_lt 262144 (length text) && may_have_too_many text && goes_over no_parts (tokens text)

abbrev pub HasTooManyParts : List ℕ → Type 0
HasTooManyParts bytes = IsUtf8 bytes × (has_too_many bytes ≡ true)

-- `TooManyParts` is answered to exactly those bytes that have, and this to all others
abbrev pub OfOthers : {X : Type 0} → List ℕ → (Result X PushFault → Type 0) → Result X PushFault → Type 0
OfOthers bytes Answers (Ok x) = (¬ HasTooManyParts bytes) × Answers (Ok x)
OfOthers bytes Answers (Err NotJson) = (¬ HasTooManyParts bytes) × Answers (Err NotJson)
OfOthers bytes Answers (Err WrongShape) = (¬ HasTooManyParts bytes) × Answers (Err WrongShape)
OfOthers bytes Answers (Err (BadTime i j)) = (¬ HasTooManyParts bytes) × Answers (Err (BadTime i j))
OfOthers bytes Answers (Err TooManyEntries) = (¬ HasTooManyParts bytes) × Answers (Err TooManyEntries)
OfOthers bytes Answers (Err TooManyParts) = HasTooManyParts bytes
OfOthers bytes Answers (Err Memory) = ⊤
