use Rattle.history.specs.Handles.{about_of}
use Rattle.history.proofs.history.History.new.Given as goal

abbrev pub ghosts-opened : goal.ghosts-opened
ghosts-opened a = record { about = about_of a.bases.now a.passes a.limits a.capacity }
