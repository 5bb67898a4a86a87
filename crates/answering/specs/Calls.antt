-- What came of calls that were made one after another.
use Rattle.std.specs.Prelude.{◌≡◌, ℕ, Bool, false, List, [], ◌∷◌, Result}
use Rattle.labels.specs.declared.fault.LabelFault.{LabelFault}
use Rattle.accept.specs.declared.call.Call.{Call}
use Rattle.accept.specs.declared.call.Reply.{Reply}
use Rattle.accept.specs.Doubts.{is_doubt}
use Rattle.accept.specs.declared.fault.CallFault.{CallFault}

-- the most calls of a body that are on their way at once
abbrev pub max_window : ℕ
max_window = 64

-- a relation of what a call gives: whether the call before it is in doubt, what was known, the call, what came of it,
-- and what is known then
abbrev pub Giving : Type 0 → Type 1
Giving H = Bool → H → Call → Result Reply CallFault → H → Type 0

-- what came of a stream: its labels were refused, and no call was made; its call had this reply; or it failed so
pub data Came : Type 0 where
  Refused : LabelFault → Came
  Replied : Reply → Came
  Failed : CallFault → Came

module _ {H : Type 0} (gives : Giving H) where
  -- this came of each, from what was known to what is known then; the call before the first is in doubt or not
  abbrev pub CallsGiveAfter : Bool → H → List Call → List (Result Reply CallFault) → H → Type 0
  CallsGiveAfter doubt h [] [] h' = h' ≡ h
  CallsGiveAfter doubt h (call ∷ calls) (r ∷ rs) h' = (mid : H) × gives doubt h call r mid
      × CallsGiveAfter (is_doubt r) mid calls rs h'
  CallsGiveAfter doubt h calls outcomes h' = ⊥

  -- and no call before the first is
  abbrev pub CallsGive : H → List Call → List (Result Reply CallFault) → H → Type 0
  CallsGive h calls outcomes h' = CallsGiveAfter false h calls outcomes h'
