use Rattle.std.proofs.Common.{◌≡◌, length, arith}
use Rattle.one_life.proofs.Starting.{two_of}
use Rattle.one_life.proofs.opening.take_both.Goals as goal

pub returns : goal.returns
returns g c =
    let list = c.args.list.now in
    let two : length list.items ≡ 2 = let asked = c.requires in omega (arith, list.ok.0) in
    two_of list.items c.pop.new.self.items c.pop-2.new.self.items c.in-Some-pop.first c.in-Some.second c.in-Some.ensures.items c.in-Some-pop.ensures.items two
