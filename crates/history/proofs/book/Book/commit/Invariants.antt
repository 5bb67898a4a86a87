use Rattle.history.proofs.book.Book.commit.Given as goal

abbrev pub ghosts-commit_at : goal.ghosts-commit_at
ghosts-commit_at g a = record { moment = g.K.Kept.moment a.kept.now }
