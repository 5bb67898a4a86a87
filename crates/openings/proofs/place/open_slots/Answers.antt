use Rattle.std.proofs.Common.{List, subst}
use Rattle.wal.specs.Opened.{IsReturned, IsRefusal}
use Rattle.openings.proofs.place.open_slots.Goals as goal

pub returns-in-Err : goal.returns-in-Err
returns-in-Err g c =
    let refused = c.in-Err.ensures in
    subst (λ (back : List g.row.D.Denot). IsReturned g.D.Disk.sight g.D.Disk.follows c.args.given back × IsRefusal g.D.Disk.sight g.D.Disk.follows c.args.owner c.args.given back c.in-Err.refusal.0)
    c.both-first.ensures (refused.returned, refused.refused)
