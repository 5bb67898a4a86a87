-- What contracts see of a value that is set aside.
use Rattle.keyed.specs.declared.aside.Aside.{Aside}

-- what it fits
abbrev pub key_aside : {T K P : Type 0} → Aside T K P → K
key_aside a = a.table.shared.key
