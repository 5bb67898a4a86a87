use Rattle.one_life.proofs.Ending.{cut_life}
use Rattle.one_life.proofs.laws.cut_turn_ends_a_life.Goals as goal

pub returns : goal.returns
returns g c = λ limits capacity slots opening start before end called answered first second last reply other opened one two meeting cut.
    cut_life g.D.Disk.sight g.D.Disk.follows limits capacity slots opening start before end opened called answered first second last reply other one two meeting cut
