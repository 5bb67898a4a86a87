use Rattle.std.proofs.Common.{◌∷◌, [], sym, subst}
use Rattle.whole.proofs.Common.{Two, opening_with, AreServing}
use Rattle.whole.proofs.ServedOnce.{serving_from, ready_to_cut, met_in, served}
use Rattle.whole.proofs.serving.serve_once.Goals as goal

pub visit-requires : goal.visit-requires
visit-requires g c =
    let start = c.in_ok-history.it in
    let table = c.in_ok-history.history in
    let slots = c.args.beginning.slots.0 ∷ c.args.beginning.slots.1 ∷ [] in
    subst (λ (s : Two g.row.D.Denot). AreServing g.D.Disk.sight g.D.Disk.follows table (opening_with s) start) (sym c.of.ensures)
    (serving_from g.D.Disk.sight g.D.Disk.follows table c.args.beginning.limits c.args.beginning.capacity slots start c.in_ok-history.ensures.opened c.in_ok-history.ensures.table)

pub cut_turn-requires : goal.cut_turn-requires
cut_turn-requires g c =
    let start = c.in_ok-history.it in
    let table = c.in_ok-history.history in
    let mid = c.visit.new.it in
    let serving = subst (λ (s : Two g.row.D.Denot). AreServing g.D.Disk.sight g.D.Disk.follows table (opening_with s) mid) c.of.ensures c.in_ok-connection.ensures.serving in
    record {
      of = ready_to_cut g.D.Disk.sight g.D.Disk.follows table (opening_with start) mid c.meet.new.one c.meet.new.two serving c.meet.ensures.one c.meet.ensures.two;
      shard = c.requires.shard;
      numbers = c.requires.numbers;
    }

pub returns-in-Some : goal.returns-in-Some
returns-in-Some g c =
    let start = c.in_ok-history.it in
    let table = c.in_ok-history.history in
    let mid = c.visit.new.it in
    let slots = c.args.beginning.slots.0 ∷ c.args.beginning.slots.1 ∷ [] in
    let serving = subst (λ (s : Two g.row.D.Denot). AreServing g.D.Disk.sight g.D.Disk.follows table (opening_with s) mid) c.of.ensures c.in_ok-connection.ensures.serving in
    let met = met_in g.D.Disk.sight g.D.Disk.follows table (opening_with start) mid c.meet.new.one c.meet.new.two serving c.meet.ensures.one c.meet.ensures.two c.meet.ensures.met in
    served g.D.Disk.sight g.D.Disk.follows g.met.D.Disk.only_now g.C.Clock.ticks c.args.beginning.limits c.args.beginning.capacity slots table start mid c.cut_turn.new.it c.meet.new.one c.meet.new.two c.in_ok-history.ensures.opened serving c.args.bytes.now c.in_ok-connection.connection c.args.clock.now c.visit.new.clock
    c.in_ok-connection.ensures.visited.0 c.in_ok-connection.ensures.visited.1.0 c.in_ok-connection.ensures.visited.1.1 met c.args.last c.in-Some.ensures
