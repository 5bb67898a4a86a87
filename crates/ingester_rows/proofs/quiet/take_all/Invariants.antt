use Rattle.ingester_rows.proofs.quiet.take_all.Given as goal

abbrev pub decreases-loop-slots : goal.decreases-loop-slots
decreases-loop-slots l = l.closed.left
