-- The slots that are announced.
use Rattle.std.specs.Prelude.{List, map}
use Rattle.walsplit.specs.declared.announced.Announced.{Announced}

-- the slots within these, pair by pair, in their order
abbrev pub slots_within : {D : Type 0} → List (List (Announced D)) → List (List D)
slots_within announced = map (λ pair. map (λ slot. slot.inner) pair) announced
