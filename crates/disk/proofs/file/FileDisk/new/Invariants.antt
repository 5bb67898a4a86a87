use Rattle.disk.proofs.file.FileDisk.new.Given as goal

abbrev pub ghost-new : goal.ghost-new
ghost-new g a = g.start
