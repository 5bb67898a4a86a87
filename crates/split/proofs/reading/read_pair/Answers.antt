use Rattle.split.proofs.Logs.{opened_back}
use Rattle.split.proofs.reading.read_pair.Goals as goal

pub returns-in-Ok-clause-rests : goal.returns-in-Ok-clause-rests
returns-in-Ok-clause-rests g c =
    (opened_back g.D.Disk.sight g.D.Disk.follows c.in-Ok.log c.args.given c.into_slots-back.result c.args.owner c.args.cap c.in-Ok.image c.into_slots-back.ensures c.in-Ok.ensures.opened).rests

pub returns-in-Ok-clause-read : goal.returns-in-Ok-clause-read
returns-in-Ok-clause-read g c =
    opened_back g.D.Disk.sight g.D.Disk.follows c.in-Ok.log c.args.given c.into_slots-back.result c.args.owner c.args.cap c.in-Ok.image c.into_slots-back.ensures c.in-Ok.ensures.opened

pub returns-in-Err-clause-rests : goal.returns-in-Err-clause-rests
returns-in-Err-clause-rests g c =
    let returned = c.in-Err.ensures.returned in
    record { before = returned.before; rests = returned.rests }

pub returns-in-Err-clause-refused : goal.returns-in-Err-clause-refused
returns-in-Err-clause-refused g c =
    let refusal = c.in-Err.ensures.refused in
    record { why = refusal.why; counted = refusal.counted }
