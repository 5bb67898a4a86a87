use Rattle.std.proofs.Common.{◌≡◌, vec_len}
use Rattle.owners.specs.Homes.{Homed}
use Rattle.owners.specs.Mailboxes.{ArePlaces}
use Rattle.owners.specs.Bonds.{AreBoundFrom}
use Rattle.owners.proofs.sending.send_all.Given as goal

abbrev pub invariant-loop-pass : goal.invariant-loop-pass
invariant-loop-pass g l = record {
  len : vec_len l.answers ≡ l.pass-end;
  places : (home : Homed) → ArePlaces home l.fn.places.items → ArePlaces home l.places.items;
  answers : (home : Homed) → AreBoundFrom home l.fn.answers.items → AreBoundFrom home l.answers.items;
}
