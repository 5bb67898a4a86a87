use Rattle.std.proofs.Common.{◌+◌, [], ◌∷◌, ◌++◌, refl, sym, ap, ◌∙◌, subst}
use Rattle.headline.proofs.Common.{key_of, shard_in, asks_on, ask_of, Announced, Passed, shard_of, Job, Sharded, Turn, AreReady}
use Rattle.one_life.proofs.Cutting.{turn_by, ready_one}
use Rattle.one_life.proofs.Turning.{compared}
use Rattle.one_life.proofs.cut.cut_turn.Goals as goal

pub apply_group-requires-clause-ready : goal.apply_group-requires-clause-ready
apply_group-requires-clause-ready g c =
    let it = c.args.it.now in
    let of = c.requires.of in
    let call = c.args.call in
    let about = it.first.book.about in
    let caller = it.one.caller in
    let ticket = c.in-Ok.ticket in
    let is = c.in-Ok.ensures.ticket in
    let job : Job = record { ticket = ticket; call = call } in
    let jobs = c.push_back_reserved.ensures.items ∙ ap (λ l. l ++ job ∷ []) c.in_ok-tray.ensures.jobs.0 in
    let k = shard_in caller.about (ask_of caller (caller.last + 1) call) in
    let ready = ready_one it.first.book ticket call
    (ap (λ (t : Announced). t.table) is ∙ sym of.first.same_table)
    (ap (λ (t : Announced). shard_in about t.ask) is ∙ ap (shard_of (key_of call)) of.two_shards ∙ c.requires.shard ∙ sym of.first.number)
    (ap (λ (t : Announced). t.ask.call) is)
    c.requires.numbers
    (ap (λ (t : Announced). t.before) is ∙ ap (asks_on caller.about k) of.one.idle) in
    subst (λ (s : Sharded g.row.D.Denot). AreReady s.book c.push_back_reserved.new.self.items) (sym (c.settle-2.ensures.shard ∙ c.settle.ensures.shard))
    (subst (AreReady it.first.book) (sym jobs) ready)

pub returns : goal.returns
returns g c =
    let old = c.args.it.now in
    let said : Passed = c.announce.new.pass in
    let made = c.apply_group in
    let turn : Turn g.row.D.Denot = turn_by c.settle-2.new.self made.new.self c.push_back_reserved.new.self.items made.new.jobs.items c.in_ok-tray.tray.settled.items made.new.settled.items made.result in
    let first_same = c.settle-2.ensures.shard ∙ c.settle.ensures.shard in
    let second_same = c.settle-4.ensures.shard ∙ c.settle-3.ensures.shard in
    let one_same = c.settle-3.ensures.pass ∙ c.settle.ensures.pass in
    let two_same = c.settle-4.ensures.pass ∙ c.settle-2.ensures.pass in
    record {
      «open» = c.in-Ok.ensures.open.0 refl;
      one = one_same ∙ c.in-Ok.ensures.pass;
      two = two_same;
      second = second_same;
      first_one = compared old.first old.first said c.settle-3.new.pass refl one_same c.settle.ensures.begins c.settle.ensures.steps;
      first_two = compared c.settle.new.self old.first old.two c.settle-4.new.pass (sym c.settle.ensures.shard) two_same c.settle-2.ensures.begins c.settle-2.ensures.steps;
      second_one = compared old.second old.second c.settle.new.pass c.settle-3.new.pass refl c.settle-3.ensures.pass c.settle-3.ensures.begins c.settle-3.ensures.steps;
      second_two = compared c.settle-3.new.self old.second c.settle-2.new.pass c.settle-4.new.pass (sym c.settle-3.ensures.shard) c.settle-4.ensures.pass c.settle-4.ensures.begins c.settle-4.ensures.steps;
      turn = turn;
      from = first_same;
      to = refl;
      made = record { turn = c.apply_group.ensures.turn; covered = c.apply_group.ensures.covered; legal = c.apply_group.ensures.legal; by_passes = c.apply_group.ensures.by_passes };
    }
