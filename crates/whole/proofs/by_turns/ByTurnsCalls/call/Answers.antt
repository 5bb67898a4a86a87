use Rattle.std.proofs.Common.{◌≡◌, ℕ, subst, arith}
use Rattle.one_life.specs.Cut.{IsOn, opening_with}
use Rattle.whole.proofs.Calling.{first_book, second_book, idle_first, idle_second, on_first, on_second, after_first, after_second}
use Rattle.whole.proofs.by_turns.ByTurnsCalls.call.Goals as goal

pub call_by_turn-requires : goal.call_by_turn-requires
call_by_turn-requires g c =
    let it = c.args.pass.now in
    let table = c.args.self.now.history.now in
    let opening = opening_with c.args.self.now.start.value in
    let are = c.requires.ready in
    let e : c.number_of.result ≡ 0 = omega arith in
    let here = subst (λ (k : ℕ). IsOn k c.args.call) e c.number_of.ensures.on in
    record {
      pass = idle_first g.D.Disk.sight g.D.Disk.follows table opening it are;
      table = (first_book g.D.Disk.sight g.D.Disk.follows table opening it are).same_table;
      here = on_first g.D.Disk.sight g.D.Disk.follows table opening it are c.args.call here;
      numbers = c.requires.numbers;
    }

pub call_by_turn-requires-else-number_of-eq0 : goal.call_by_turn-requires-else-number_of-eq0
call_by_turn-requires-else-number_of-eq0 g c =
    let it = c.args.pass.now in
    let table = c.args.self.now.history.now in
    let opening = opening_with c.args.self.now.start.value in
    let are = c.requires.ready in
    let e : c.number_of.result ≡ 1 = omega arith in
    let here = subst (λ (k : ℕ). IsOn k c.args.call) e c.number_of.ensures.on in
    record {
      pass = idle_second g.D.Disk.sight g.D.Disk.follows table opening it are;
      table = (second_book g.D.Disk.sight g.D.Disk.follows table opening it are).same_table;
      here = on_second g.D.Disk.sight g.D.Disk.follows table opening it are c.args.call here;
      numbers = c.requires.numbers;
    }

pub returns-then-number_of-eq0-clause-ready : goal.returns-then-number_of-eq0-clause-ready
returns-then-number_of-eq0-clause-ready g c =
    let it = c.args.pass.now in
    let made = c.call_by_turn in
    after_first g.D.Disk.sight g.D.Disk.follows c.args.self.now.history.now (opening_with c.args.self.now.start.value) it c.requires.ready made.new.shard made.new.pass made.ensures.turned made.ensures.pass

pub returns-else-number_of-eq0-clause-ready : goal.returns-else-number_of-eq0-clause-ready
returns-else-number_of-eq0-clause-ready g c =
    let it = c.args.pass.now in
    let made = c.call_by_turn-else-number_of-eq0 in
    after_second g.D.Disk.sight g.D.Disk.follows c.args.self.now.history.now (opening_with c.args.self.now.start.value) it c.requires.ready made.new.shard made.new.pass made.ensures.turned made.ensures.pass
