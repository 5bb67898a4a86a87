-- What an opening finds in empty slots.
use Rattle.std.proofs.Common.{◌≡◌, ◌∙◌, ℕ, zero, suc, List, [], ◌∷◌, take, ap, subst, inl, arith}
use Rattle.std.specs.FinMap as finite
use Rattle.accept.specs.declared.history.History.{History}
use Rattle.accept.specs.OneStream.{profile_limits}
use Rattle.accept.specs.Rooms.{Streams}
use Rattle.accept.specs.Histories.{meaning, answered_to}
use Rattle.accept.proofs.Meanings.{meaning-nothing}
use Rattle.disk.specs.Sight.{Sight}
use Rattle.segment.specs.ShardPlaces.{ShardPlace}
use Rattle.segment.specs.Segments.{is_closed}
use Rattle.wal.specs.declared.log.Wal.{Wal}
use Rattle.wal.specs.Covers.{Covers}
use Rattle.wal.specs.Opening.{slots_of}
use Rattle.wal.specs.Opened.{IsOpenedFrom}
use Rattle.openings.specs.Findings.{AreOpenedFrom}
use Rattle.tools.specs.EmptySlots.{IsEmptyDisk, AreEmptySlots}

-- no call, and nothing before it
abbrev no_past : History
no_past = record { base = finite.empty; items = [] }

still_nothing : (j : ℕ) → meaning (answered_to profile_limits no_past (take j [])) ≡ finite.empty
still_nothing zero = meaning-nothing finite.empty
still_nothing (suc j) = meaning-nothing finite.empty

module _ {D : Type 0} (sight : D → Sight) (follows : D → Type 0) (always : (d : D) → follows d) where
  covered : (whose : ShardPlace) (a b : D) → IsEmptyDisk (sight a) → IsEmptyDisk (sight b) → Covers whose profile_limits (slots_of sight (a ∷ b ∷ [])) no_past []
  covered whose a b first second x y p q =
      let is_x : x ≡ [] = first.synced x p ∙ first.none in
      let is_y : y ≡ [] = second.synced y q ∙ second.none in
      (0, omega arith, inl (record { first = ap is_closed is_x; second = ap is_closed is_y; none = still_nothing 0 }))

  none_there : (whose : ShardPlace) (capacity : ℕ) (a b : D) (log : Wal D) (m : Streams) → IsEmptyDisk (sight a) → IsEmptyDisk (sight b) → IsOpenedFrom sight follows whose capacity (a ∷ b ∷ []) log m → m ≡ finite.empty
  none_there whose capacity a b log m first second is =
      let found = is.covered (always log.active, always log.spare) profile_limits no_past [] (covered whose a b first second) in
      found.2 ∙ still_nothing found.0

  pub none_found : (count capacity : ℕ) (slots : List (List D)) (logs : List (Wal D)) (ms : List Streams) → AreEmptySlots sight slots → AreOpenedFrom sight follows count capacity 0 slots logs ms → ms ≡ finite.empty ∷ []
  none_found count capacity slots logs ms empty found = here logs ms (subst (λ (all : List (List D)). AreOpenedFrom sight follows count capacity 0 all logs ms) empty.slots_are found)
    where
      here : (logs : List (Wal D)) (ms : List Streams) → AreOpenedFrom sight follows count capacity 0 ((empty.first ∷ empty.second ∷ []) ∷ []) logs ms → ms ≡ finite.empty ∷ []
      here [] [] h = absurd h
      here [] (m ∷ ms) h = absurd h
      here (log ∷ logs) [] h = absurd h
      here (log ∷ []) (m ∷ []) h = ap (λ (x : Streams). x ∷ []) (none_there _ capacity empty.first empty.second log m empty.first_empty empty.second_empty h.0)
      here (log ∷ []) (m ∷ n ∷ ms) h = absurd h.1
      here (log ∷ other ∷ logs) (m ∷ ms) h = absurd h.1
