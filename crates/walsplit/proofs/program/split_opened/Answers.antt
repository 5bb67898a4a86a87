use Rattle.disk.specs.declared.file.FileDisk.{FileDisk}
use Rattle.disk.specs.FileDisk.{file_sight, FileFollows}
use Rattle.programs.specs.declared.watched.Watched.{Watched}
use Rattle.walsplit.specs.declared.announced.Announced.{Announced}
use Rattle.walsplit.proofs.Within.{split_of_these}
use Rattle.walsplit.proofs.program.split_opened.Goals as goal

pub returns : goal.returns
returns c =
    split_of_these (λ (slot : Announced (Watched FileDisk)). slot.inner) (λ (w : Watched FileDisk). file_sight w.inner) (λ (w : Watched FileDisk). FileFollows w.inner) c.split_slots.result c.args.capacity c.in_ok-old.old.items c.in_ok-new.new.items _ _ c.in_ok-old.ensures.slots c.in_ok-new.ensures.slots c.split_slots.ensures.done
