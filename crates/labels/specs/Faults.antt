-- The fault that is answered for labels that are not lawful.
use Rattle.std.specs.Prelude.{ℕ, Bool, false, ◌&&◌, ◌||◌, List, [], ◌∷◌, Option, Some, None, length, codes, nat_lt, not, ◌==◌, if◌then◌else◌}
use Rattle.std.specs.List.{list_all}
use Rattle.std.specs.Option.{option_or}
use Rattle.std.specs.Char.{is_ascii_alphabetic, is_ascii_alphanumeric}
use Rattle.pairs.specs.Labels.{Label}
use Rattle.pairs.specs.Names.{repeats_name}
use Rattle.labels.specs.declared.fault.LabelFault.{LabelFault}
use Rattle.labels.specs.declared.fault.LabelFault.TheVariants.{NoLabels, TooManyLabels, BadName, NameTooLong, EmptyValue, ValueTooLong, NameTwice, NotCanonical, BadTenant, Memory}

-- the most labels of a stream
abbrev pub max_labels : ℕ
max_labels = 15

-- what is said of a fault
abbrev pub label_words : LabelFault → List ℕ
label_words NoLabels = codes "no labels"
label_words TooManyLabels = codes "more than 15 labels"
label_words BadName = codes "bad label name"
label_words NameTooLong = codes "label name too long"
label_words EmptyValue = codes "empty label value"
label_words ValueTooLong = codes "label value too long"
label_words NameTwice = codes "label name twice"
label_words NotCanonical = codes "labels are not in canonical form"
label_words BadTenant = codes "bad tenant"
label_words Memory = codes "out of memory"

-- `[A-Za-z_]`
abbrev pub begins_name : ℕ → Bool
begins_name b = is_ascii_alphabetic b || b == 95

-- `[A-Za-z0-9_]`
abbrev pub continues_name : ℕ → Bool
continues_name b = is_ascii_alphanumeric b || b == 95

-- `[A-Za-z_][A-Za-z0-9_]*`
abbrev pub is_name : List ℕ → Bool
is_name [] = false
is_name (b ∷ bs) = begins_name b && list_all continues_name bs

-- what is wrong with one label: the first test that holds
unfoldable pub label_fault : Label → Option LabelFault
label_fault p =
    if not (is_name p.0) then Some BadName
    else (if nat_lt 1024 (length p.0) then Some NameTooLong
    else (if length p.1 == 0 then Some EmptyValue
    else (if nat_lt 2048 (length p.1) then Some ValueTooLong
    else None)))

-- the fault of the first label that has one, in order as given
abbrev pub each_fault : List Label → Option LabelFault
each_fault [] = None
each_fault (p ∷ ps) = option_or (label_fault p) (each_fault ps)

-- what is wrong with the labels of a stream: their number, then each label, then a repeated name
unfoldable pub first_fault : List Label → Option LabelFault
first_fault ps =
    if length ps == 0 then Some NoLabels
    else (if nat_lt max_labels (length ps) then Some TooManyLabels
    else option_or (each_fault ps) (if repeats_name ps then Some NameTwice else None))
