-- What a head says of its request; for private clauses.
use Rattle.std.specs.Prelude.{◌≡◌, ℕ, ◌-◌, ◌≤◌, Result, Ok, Err}
use Rattle.httparse.specs.Grammar.{RequestHead}
use Rattle.requests.specs.Fields.{fields_of}
use Rattle.requests.specs.Framings.{framing_of, max_body}
use Rattle.requests.specs.Verdicts.{IsVerdict, asks_close}
use Rattle.requests.specs.declared.framing.Framing.TheVariants.{Length, Refused}
use Rattle.requests.specs.declared.fixed.FixedAnswer.{FixedAnswer}
use Rattle.requests.specs.declared.incoming.Message.{Message}

-- the message says what the head does, whose body begins at start
pub record SaysHead (h : RequestHead) (start : ℕ) (m : Message) : Type 0 where
  pub verdict : IsVerdict h.method h.target (fields_of h) m.verdict
  pub closes : m.closes ≡ asks_close h.minor (fields_of h)
  pub framing : framing_of h.method (fields_of h) ≡ Length (m.end - m.start)
  pub start_is : m.start ≡ start
  pub ordered : m.start ≤ m.end
  pub small : m.end - m.start ≤ max_body

abbrev pub IsJudged : RequestHead → ℕ → Result Message FixedAnswer → Type 0
IsJudged h start (Ok m) = SaysHead h start m
IsJudged h start (Err why) = framing_of h.method (fields_of h) ≡ Refused why
