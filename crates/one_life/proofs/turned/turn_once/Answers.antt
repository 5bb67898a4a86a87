use Rattle.std.proofs.Common.{[], ◌∷◌, refl, sym, ◌∙◌, subst}
use Rattle.headline.proofs.Common.{Passed, Sharded, Turn, Opening, opening_of}
use Rattle.one_life.specs.Turned.{IsTurnedOnce}
use Rattle.one_life.proofs.Cutting.{turn_by}
use Rattle.one_life.proofs.Turning.{compared, turns_once}
use Rattle.one_life.proofs.turned.turn_once.Goals as goal

pub returns : goal.returns
returns g c =
    let opening : Opening g.row.D.Denot = opening_of c.args.book (c.args.log ∷ []) in
    let opened : Sharded g.row.D.Denot = record { log = c.args.log; book = c.args.book; opened = c.args.log } in
    let pass : Passed = c.settle.new.pass in
    let one = c.settle.ensures in
    let two = c.settle-2.ensures in
    let made = c.apply_group-ended in
    let turn : Sharded g.row.D.Denot → Sharded g.row.D.Denot → Turn g.row.D.Denot = λ old new. turn_by old new c.args.jobs.now.items made.new.jobs.items c.args.settled.now.items made.new.settled.items made.result in
    let old = one.shard ∙ c.in-Ok.ensures.ok in
    let before = compared c.in-Ok.shard c.settle.new.self c.args.pass.now pass one.shard one.pass one.begins one.steps in
    let after = compared made.new.self made.new.self pass pass refl refl two.begins two.steps in
    let is = turns_once g.D.Disk.sight g.D.Disk.follows c.args.log c.args.book c.requires.only c.requires.ground.fresh (turn c.settle.new.self made.new.self) pass old (record { turn = made.ensures.turn; covered = made.ensures.covered; legal = made.ensures.legal; by_passes = made.ensures.by_passes }) before after in
    subst (λ (s : Sharded g.row.D.Denot). IsTurnedOnce g.D.Disk.sight g.D.Disk.follows opening (turn s c.settle-2.new.self) c.settle-2.new.pass) old
    (subst (λ (s : Sharded g.row.D.Denot). IsTurnedOnce g.D.Disk.sight g.D.Disk.follows opening (turn c.settle.new.self s) c.settle-2.new.pass) (sym two.shard)
    (subst (IsTurnedOnce g.D.Disk.sight g.D.Disk.follows opening (turn c.settle.new.self made.new.self)) (sym two.pass) is))
