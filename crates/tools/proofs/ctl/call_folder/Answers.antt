use denote.Param.Send.{sendable}
use Rattle.disk.proofs.file.FileDisk.TheSendSync as file_disk
use Rattle.programs.proofs.watched.Watched.TheSendSync as watched
use Rattle.tools.proofs.ctl.call_folder.Goals as goal

pub open_for_one-requires-send-D : goal.open_for_one-requires-send-D
open_for_one-requires-send-D g c κs within = search (watched.the_send, file_disk.the_send, sendable) depth 20
