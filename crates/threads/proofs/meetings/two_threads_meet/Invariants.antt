use Rattle.threads.proofs.meetings.two_threads_meet.Given as goal

abbrev pub ghosts-both_call : goal.ghosts-both_call
ghosts-both_call g a = record { table = a.history }
