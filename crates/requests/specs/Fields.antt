-- The header fields of a head, as names and values.
use Rattle.std.specs.Prelude.{ℕ, Bool, List, [], ◌∷◌, Option, None, Some, map, bytes_eq, ◌==◌, if◌then◌else◌, ◌&&◌}
use Rattle.std.specs.List.{list_any}
use Rattle.std.specs.Char.{to_ascii_lowercase}
use Rattle.httparse.specs.Grammar.{RequestHead, trim_ows}
use Rattle.httparse.specs.Spans.{name_and_value}

-- a name, and a value without the spaces and tabs around it
abbrev pub Field : Type 0
Field = List ℕ × List ℕ

abbrev pub fields_of : RequestHead → List Field
fields_of h = map name_and_value h.fields

-- the same text but for the case of ASCII letters
unfoldable pub is_same_word : List ℕ → List ℕ → Bool
is_same_word a b = bytes_eq (map to_ascii_lowercase a) (map to_ascii_lowercase b)

-- the values of the fields of this name, in whatever case, in order
abbrev pub values_of : List ℕ → List Field → List (List ℕ)
values_of name [] = []
values_of name (f ∷ fs) =
    if is_same_word f.0 name then f.1 ∷ values_of name fs else values_of name fs

-- whether a field has this name
abbrev pub has_field : List ℕ → List Field → Bool
has_field name fields = list_any (λ f. is_same_word f.0 name) fields

-- the same parts of a text, the first of which begins with one byte more
abbrev pub begun_by : ℕ → List (List ℕ) → List (List ℕ)
begun_by b [] = (b ∷ []) ∷ []
begun_by b (p ∷ ps) = (b ∷ p) ∷ ps

-- the parts of a text between marks
abbrev pub parts : ℕ → List ℕ → List (List ℕ)
parts mark [] = [] ∷ []
parts mark (b ∷ bs) = if b == mark then [] ∷ parts mark bs else begun_by b (parts mark bs)

-- whether a list of words, between which commas stand, has this word, in whatever case
abbrev pub lists : List ℕ → List ℕ → Bool
lists word value = list_any (λ p. is_same_word (trim_ows p) word) (parts 44 value)

-- whether a field has this name and lists this word, in whatever case
abbrev pub has_word : List ℕ → List ℕ → List Field → Bool
has_word name word fields = list_any (λ f. is_same_word f.0 name && lists word f.1) fields

-- the bytes before the first that is the mark, or all
abbrev pub before : ℕ → List ℕ → List ℕ
before mark [] = []
before mark (b ∷ bs) = if b == mark then [] else b ∷ before mark bs

-- the bytes after the first that is the mark, None where there is none
abbrev pub after_mark : ℕ → List ℕ → Option (List ℕ)
after_mark mark [] = None
after_mark mark (b ∷ bs) = if b == mark then Some bs else after_mark mark bs
