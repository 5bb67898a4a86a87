use denote.Exit.{no}
use denote.Param.{param}
use denote.Param.Send.{IsSend, param_send, arg_send}
use Rattle.owners.proofs.Sent.{start_send, closure_send}
use Rattle.owners.specs.contracts.team.Start as start
use Rattle.owners.proofs.team.start_one.Goals as goal

pub spawn-requires-send-F : goal.spawn-requires-send-F
spawn-requires-send-F g c κs within =
    let moves : IsSend (start.the_row (param 0 g.row.D) (param 2 g.row.H) g.D.Disk) = start_send (param 0 g.row.D) (param 2 g.row.H) g.D.Disk c.type_bounds.send-D c.type_bounds.send-H in
    param_send 1 _ (arg_send _ no _ (closure_send _ (start.the_row (param 0 g.row.D) (param 2 g.row.H) g.D.Disk) moves))
