use Rattle.std.proofs.Common.{◌≡◌, ◌∙◌, ℕ, length, vec_len, subst, arith, Some}
use Rattle.openings.specs.Findings.{AreOpenedFrom}
use Rattle.one_life.specs.Once.{IsLivedOnce}
use Rattle.one_life.proofs.Living.{fresh_idle, first_pass, only_pass, each_pass, finish, lived}
use Rattle.one_life.proofs.once.live_once.Goals as goal

pub call-outcome-requires-clause-pass : goal.call-outcome-requires-clause-pass
call-outcome-requires-clause-pass g c =
    fresh_idle c.in-Ok.ingester 1 c.in-Ok.passes.items c.index_mut.result.now c.in-Ok.ensures.opened.passes
    (first_pass c.in-Ok.passes.items c.index_mut.result.now c.in-Ok.ensures.opened.passes.count_is c.index_mut.ensures.value)

pub close-closed-requires-clause-passes : goal.close-closed-requires-clause-passes
close-closed-requires-clause-passes g c = each_pass c.in-Ok.ingester c.in-Ok.passes.items c.call-outcome.new.pass c.in-Ok.ensures.opened.passes.count_is c.call-outcome.ensures.pass

pub returns-in-Some : goal.returns-in-Some
returns-in-Some g c =
    let given = c.args.slots.items in
    let opening = c.in-Ok.ingester in
    let passes = c.in-Ok.passes.items in
    let before = c.index_mut.result.now in
    let one : length given ≡ 1 = let asked = c.requires.slots in omega (arith, c.args.slots.ok.0) in
    let counted : vec_len c.args.slots ≡ length given = omega (arith, c.args.slots.ok.0) in
    let found = subst (λ (n : ℕ). AreOpenedFrom g.D.Disk.sight g.D.Disk.follows n c.args.capacity 0 given opening.logs opening.about.bases) counted c.in-Ok.ensures.opened.found in
    finish g.D.Disk.sight g.D.Disk.follows c.close-closed.result c.take.new.self (Some c.in-Some.handed) opening _ c.call-outcome.new.pass
    (IsLivedOnce g.D.Disk.sight g.D.Disk.follows given c.args.call c.call-outcome.result)
    c.close-closed.ensures c.in-Some.ensures.left c.in-Some.ensures.kept (c.in-Ok.ensures.opened.shards ∙ c.requires.slots)
    (only_pass passes c.call-outcome.new.pass c.in-Ok.ensures.opened.passes.count_is)
    (λ handed out. lived g.D.Disk.sight g.D.Disk.follows given one opening c.args.limits c.args.capacity found c.in-Ok.ensures.opened.about (c.in-Ok.ensures.opened.shards ∙ counted)
    before c.call-outcome.new.pass (c.in-Ok.ensures.opened.passes.fresh 0 before (first_pass passes before c.in-Ok.ensures.opened.passes.count_is c.index_mut.ensures.value)) c.args.call c.call-outcome.result
    (record { answered = c.call-outcome.ensures.answered; refused = c.call-outcome.ensures.refused; closed = c.call-outcome.ensures.closed }) handed out)
