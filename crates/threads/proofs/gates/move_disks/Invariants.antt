use Rattle.disk.specs.Calls.{from_nothing}
use Rattle.threads.proofs.gates.move_disks.Given as goal

abbrev pub ghost-new : goal.ghost-new
ghost-new g a = from_nothing
