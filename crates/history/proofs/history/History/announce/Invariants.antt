use Rattle.history.proofs.history.History.announce.Given as goal

abbrev pub ghosts-announce_call : goal.ghosts-announce_call
ghosts-announce_call a = record { call = a.call.now }
