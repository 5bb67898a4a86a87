use Rattle.std.proofs.Common.{◌≡◌, ◌+◌, [], ◌∷◌, ◌++◌, refl, sym, ap, ◌∙◌, subst}
use Rattle.headline.proofs.Common.{Step, Turn, IsFirst, step_of, HasSeenStep, collect_to, Announced, Passed, Job, opening_of, with_next}
use Rattle.one_life.specs.Cut.{IsOfTicket}
use Rattle.one_life.proofs.Cutting.{turn_by, came_of, popped, given_by}
use Rattle.one_life.proofs.called.call_once.Goals as goal

pub collect-requires-clause-table : goal.collect-requires-clause-table
collect-requires-clause-table g c =
    let made = c.apply_group in
    let turn : Turn g.row.D.Denot = turn_by c.args.shard.now made.new.self c.push_back_reserved.new.self.items made.new.jobs.items c.args.tray.now.settled.items made.new.settled.items made.result in
    let j : Job = record { ticket = c.in-Ok.ticket; call = c.args.call } in
    let jobs : turn.jobs ≡ j ∷ [] = c.push_back_reserved.ensures.items ∙ ap (λ l. l ++ j ∷ []) c.requires.jobs.0 in
    let came = came_of g.D.Disk.sight g.D.Disk.follows turn j jobs c.requires.settled.0 c.apply_group.ensures.turn in
    let its = subst (IsOfTicket c.in-Ok.ticket) c.in-Some-Answered.field-0-is (popped c.in-Ok.ticket turn.now c.pop.new.self.items c.in-Some-Answered.field-0 came c.in-Some-Answered.ensures.items) in (
      ap (λ (p : Passed). p.table) c.in-Ok.ensures.pass ∙ c.requires.tables.0,
      its.0 ∙ ap (λ (t : Announced). t.table) c.in-Ok.ensures.ticket,
    )

pub collect-requires-clause-pass : goal.collect-requires-clause-pass
collect-requires-clause-pass g c =
    let made = c.apply_group in
    let turn : Turn g.row.D.Denot = turn_by c.args.shard.now made.new.self c.push_back_reserved.new.self.items made.new.jobs.items c.args.tray.now.settled.items made.new.settled.items made.result in
    let j : Job = record { ticket = c.in-Ok.ticket; call = c.args.call } in
    let jobs : turn.jobs ≡ j ∷ [] = c.push_back_reserved.ensures.items ∙ ap (λ l. l ++ j ∷ []) c.requires.jobs.0 in
    let came = came_of g.D.Disk.sight g.D.Disk.follows turn j jobs c.requires.settled.0 c.apply_group.ensures.turn in
    let its = subst (IsOfTicket c.in-Ok.ticket) c.in-Some-Answered.field-0-is (popped c.in-Ok.ticket turn.now c.pop.new.self.items c.in-Some-Answered.field-0 came c.in-Some-Answered.ensures.items) in
    ap (λ (s : Step). s.ask.pass) its.1 ∙ ap (λ (t : Announced). t.ask.pass) c.in-Ok.ensures.ticket ∙ sym (ap (λ (p : Passed). p.caller.pass) c.in-Ok.ensures.pass)

pub returns : goal.returns
returns g c =
    let made = c.apply_group in
    let turn : Turn g.row.D.Denot = turn_by c.args.shard.now made.new.self c.push_back_reserved.new.self.items made.new.jobs.items c.args.tray.now.settled.items made.new.settled.items made.result in
    let j : Job = record { ticket = c.in-Ok.ticket; call = c.args.call } in
    let jobs : turn.jobs ≡ j ∷ [] = c.push_back_reserved.ensures.items ∙ ap (λ l. l ++ j ∷ []) c.requires.jobs.0 in
    let reply = c.in-Some-Answered.reply in
    let receipt = c.in-Some-Answered.receipt in
    let came = came_of g.D.Disk.sight g.D.Disk.follows turn j jobs c.requires.settled.0 c.apply_group.ensures.turn in
    let its = subst (IsOfTicket c.in-Ok.ticket) c.in-Some-Answered.field-0-is (popped c.in-Ok.ticket turn.now c.pop.new.self.items c.in-Some-Answered.field-0 came c.in-Some-Answered.ensures.items) in
    let was : Passed = c.args.pass.now in
    let now : Passed = c.collect.new.pass in
    let mid : c.announce.new.pass ≡ with_next was c.args.call = c.in-Ok.ensures.pass in
    let given = given_by (opening_of {D = g.row.D.Denot} c.args.shard.now.book []) was now c.args.call reply receipt
    (record { table = c.requires.tables.0 ∙ sym c.requires.tables.1; about = c.requires.pass.0; idle = λ e. c.requires.pass.1 })
    (c.in-Ok.ensures.open.0 refl)
    (its.1 ∙ ap (λ (t : Announced). step_of t.ask reply) c.in-Ok.ensures.ticket)
    (subst (λ (p : Passed). IsFirst receipt.step.ask p.caller.pending) mid c.collect.ensures.first)
    (subst (λ (p : Passed). now ≡ record p { caller = collect_to p.caller receipt.step receipt.upto }) mid c.collect.ensures.pass)
    (subst (λ (p : Passed). HasSeenStep p.caller now.caller receipt.step receipt.upto) mid c.collect.ensures.seen)
    c.collect.ensures.rested in
    record {
      turn = turn;
      from = refl;
      to = refl;
      made = record { turn = c.apply_group.ensures.turn; covered = c.apply_group.ensures.covered; legal = c.apply_group.ensures.legal; by_passes = c.apply_group.ensures.by_passes };
      given = given.0;
    }
