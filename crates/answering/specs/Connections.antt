-- A connection without its ends.
use Rattle.std.specs.Prelude.{◌≡◌, ℕ, ◌-◌, Bool, true, List, [], ◌++◌, length, drop, Result, Ok}
use Rattle.requests.specs.declared.fault.ServeFault.{ServeFault}
use Rattle.answering.specs.declared.visiting.Visited.{Visited}
use Rattle.answering.specs.declared.visiting.Visited.TheVariants.{More, Unfinished}

-- what has come and is not yet answered, how much more may come, what is to be sent, whether the connection ends then,
-- and whether it does without the answer to a request, for want of memory
pub record Unended : Type 0 where
  pub came : List ℕ
  pub room : ℕ
  pub text : List ℕ
  pub closes : Bool
  pub unanswered : Bool

-- these bytes came
abbrev pub with_bytes : List ℕ → Unended → Unended
with_bytes bytes c =
    record { came = c.came ++ bytes; room = c.room - length bytes; text = c.text; closes = c.closes; unanswered = c.unanswered }

-- the first bytes of its text were sent
abbrev pub without_bytes : ℕ → Unended → Unended
without_bytes n c =
    record { came = c.came; room = c.room; text = drop n c.text; closes = c.closes; unanswered = c.unanswered }

-- all of it was
abbrev pub without_text : Unended → Unended
without_text c = record { came = c.came; room = c.room; text = []; closes = c.closes; unanswered = c.unanswered }

-- how much may come after a visit, and whether the connection ends
abbrev pub IsLeftSo : Result Visited ServeFault → Unended → Unended → Type 0
IsLeftSo (Ok More) old new = (new.room ≡ 0) × (new.closes ≡ old.closes)
IsLeftSo (Ok (Unfinished n)) old new = (new.room ≡ n) × (new.closes ≡ old.closes)
IsLeftSo result old new = (new.room ≡ 0) × (new.closes ≡ true)
