use Rattle.threads.proofs.open_calls.many_calls_are_open.Given as goal

abbrev pub ghosts-both_call : goal.ghosts-both_call
ghosts-both_call g a = record { table = a.history.now; about = a.one.caller.about }
