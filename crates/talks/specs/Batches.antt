-- Sessions that are visited together, and what is left of their talks then.
use Rattle.std.specs.Prelude.{◌≡◌, false}
use Rattle.talks.specs.Talks.{Seen, IsOfTalk}
use Rattle.talks.specs.declared.batch.Lent.{Lent}

module _ {T : Type 0} (seen : T → Seen) (visited : T → T → Type 0) where
  -- the session is that of this talk
  abbrev pub IsSessionOf : T → Lent → Type 0
  IsSessionOf t lent = IsOfTalk seen visited t lent.over lent.socket.noted.calls

  -- and it goes on
  abbrev pub MayBeVisited : T → Lent → Type 0
  MayBeVisited t lent = ((seen t).closes ≡ false) × IsSessionOf t lent
