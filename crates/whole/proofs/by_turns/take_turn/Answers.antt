use Rattle.std.proofs.Common.{◌≡◌, [], ◌∷◌, ◌++◌, length, refl, sym, ap, ◌∙◌, subst, arith}
use Rattle.headline.proofs.Common.{Job, Turn, AreReady}
use Rattle.one_life.proofs.Cutting.{turn_by, came_of, popped}
use Rattle.whole.proofs.Calling.{no_turn, one_turn}
use Rattle.whole.proofs.by_turns.take_turn.Goals as goal

pub apply_group-requires-clause-ready : goal.apply_group-requires-clause-ready
apply_group-requires-clause-ready g c =
    let j : Job = record { ticket = c.args.ticket; call = c.args.call } in
    let jobs : c.push_back_reserved.new.self.items ≡ j ∷ [] = c.push_back_reserved.ensures.items ∙ ap (λ l. l ++ j ∷ []) c.in-Some.ensures.jobs.0 in
    subst (AreReady c.args.shard.now.book) (sym jobs) c.requires

pub returns-in_default-clause-turned : goal.returns-in_default-clause-turned
returns-in_default-clause-turned g c = no_turn g.D.Disk.sight g.D.Disk.follows c.args.shard.now c.args.shard.now refl

pub unreachable-requires : goal.unreachable-requires
unreachable-requires g c =
    let made = c.apply_group in
    let turn : Turn g.row.D.Denot = turn_by c.args.shard.now made.new.self c.push_back_reserved.new.self.items made.new.jobs.items c.in-Some.tray.settled.items made.new.settled.items made.result in
    let j : Job = record { ticket = c.args.ticket; call = c.args.call } in
    let jobs : turn.jobs ≡ j ∷ [] = c.push_back_reserved.ensures.items ∙ ap (λ l. l ++ j ∷ []) c.in-Some.ensures.jobs.0 in
    let came = came_of g.D.Disk.sight g.D.Disk.follows turn j jobs c.in-Some.ensures.settled.0 c.apply_group.ensures.turn in
    let one = ap length came.1 in
    let counted = c.apply_group.new.settled.ok.0 in
    omega (arith, one, counted, c.in-None.ensures.cases.0)

pub returns : goal.returns
returns g c =
    let made = c.apply_group in
    let turn : Turn g.row.D.Denot = turn_by c.args.shard.now made.new.self c.push_back_reserved.new.self.items made.new.jobs.items c.in-Some.tray.settled.items made.new.settled.items made.result in
    let j : Job = record { ticket = c.args.ticket; call = c.args.call } in
    let jobs : turn.jobs ≡ j ∷ [] = c.push_back_reserved.ensures.items ∙ ap (λ l. l ++ j ∷ []) c.in-Some.ensures.jobs.0 in
    let came = came_of g.D.Disk.sight g.D.Disk.follows turn j jobs c.in-Some.ensures.settled.0 c.apply_group.ensures.turn in
    record {
      settled = popped c.args.ticket turn.now c.pop.new.self.items c.in-Some-pop.settled came c.in-Some-pop.ensures.items;
      turned = one_turn g.D.Disk.sight g.D.Disk.follows turn (record { turn = c.apply_group.ensures.turn; covered = c.apply_group.ensures.covered; legal = c.apply_group.ensures.legal; by_passes = c.apply_group.ensures.by_passes });
    }
