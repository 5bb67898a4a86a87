-- The rule of the queues.
use Rattle.std.specs.Prelude.{◌≡◌, ◌⊎◌, ℕ, List, [], ◌∷◌}
use mathlib.Core.Option.{some}
use lib.ListN.{get_elem?}
use Rattle.keyed.specs.declared.binding.Binding.{Binding}
use Rattle.keyed.specs.declared.binding.Binding.TheVariants.{Unbound, Bound}
use Rattle.keyed.specs.declared.binding.EndView.{EndView}

-- the queue is bound
abbrev pub IsBound : {K : Type 0} → Binding K → Type 0
IsBound Unbound = ⊥
IsBound (Bound key n) = Unit {0}

module _ {T K : Type 0} where
  -- an end of a queue that is bound so, at which nothing was received
  abbrev pub bound_to : Binding K → EndView T K
  bound_to binding = record { binding = binding; received = record { of = record {}; messages = [] } }

  -- the end of a queue that was just made
  abbrev pub unused : EndView T K
  unused = bound_to Unbound

  -- the end, at which this message was received
  abbrev pub with_received : EndView T K → T → EndView T K
  with_received end message = record end { received = record { of = record {}; messages = message ∷ end.received.messages } }

module _ {T K : Type 0} (fits : K → ℕ → T → Type 0) where
  -- the message fits what the queue is bound to
  abbrev pub FitsBinding : Binding K → T → Type 0
  FitsBinding Unbound x = ⊥
  FitsBinding (Bound key n) x = fits key n x

  -- all messages fit the key and the number, which each end knows
  pub record AreBound (key : K) (n : ℕ) (items : List T)
      (ends : List (EndView T K)) : Type 0 where
    pub item : (i : ℕ) (x : T) → get_elem? items i ≡ some x → fits key n x
    pub binding : (j : ℕ) (v : EndView T K) → get_elem? ends j ≡ some v → v.binding ≡ Bound key n

  -- the queue was just made, or is bound
  abbrev pub IsUnusedOrBound : List T → List (EndView T K) → Type 0
  IsUnusedOrBound items ends = ((items ≡ []) × (ends ≡ unused ∷ []))
      ⊎ ((key : K) × (n : ℕ) × AreBound key n items ends)
