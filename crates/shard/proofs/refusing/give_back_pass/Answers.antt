use Rattle.std.proofs.Common.{◌≡◌, [], ◌∷◌, ◌++◌, sym, ap, refl, ◌∙◌, arith}
use Rattle.shard.specs.declared.group.Settled.{Settled}
use Rattle.shard.proofs.Refusals.{partly_first, partly_mine, partly_other, partly_all}
use Rattle.shard.proofs.refusing.give_back_pass.Goals as goal
use Rattle.shard.proofs.refusing.give_back_pass.Goals.{then-pass, else-pass}

pub loop-turn-init : goal.loop-turn-init
loop-turn-init c = record {
  partly = partly_first c.args.fault c.args.pass c.args.jobs.now.items c.args.settled.now.items c.len-turn-end.result (omega (arith, c.len-turn-end.ensures, c.args.jobs.now.ok.0));
  capacity = refl;
  places = refl;
  room = omega arith;
}

pub loop-turn-preserved : goal.loop-turn-preserved
loop-turn-preserved c =
    let inv = c.loop-turn.invariant in
    let popped = c.in-Some.ensures.items in
    let more = c.loop-turn-test.true in
    let start = c.args.jobs.now.items in
    let was = c.args.settled.now.items in
    let jobs = c.loop-turn.jobs.items in
    let now = c.loop-turn.settled.items in
    record {
      partly = elim c.if-pass.branch [
        | then-pass w ↦ rw w.jobs-is (rw w.settled-is (partly_mine c.args.fault c.args.pass start was c.len-turn-end.result c.loop-turn._turn jobs c.pop_front.new.self.items c.in-Some.job now w.push_reserved.new.self.items
            inv.partly more popped (sym w.if-pass.true ∙ c.pass.ensures) (w.push_reserved.ensures.items ∙ ap (λ (v : Settled). now ++ v ∷ []) w.give_back.ensures)))
        | else-pass w ↦ rw w.jobs-is (rw w.settled-is (partly_other c.args.fault c.args.pass start was c.len-turn-end.result c.loop-turn._turn jobs c.pop_front.new.self.items w.push_back_reserved.new.self.items c.in-Some.job now
            inv.partly more popped (λ (e : c.args.pass ≡ c.in-Some.job.ticket.ask.pass). w.if-pass.false (c.pass.ensures ∙ sym e)) w.push_back_reserved.ensures.items))
      ];
      capacity = elim c.if-pass.branch [
        | then-pass w ↦ rw w.settled-is (w.push_reserved.ensures.capacity ∙ inv.capacity)
        | else-pass w ↦ rw w.settled-is inv.capacity
      ];
      places = elim c.if-pass.branch [
        | then-pass w ↦ rw w.jobs-is (c.in-Some.ensures.capacity ∙ inv.places)
        | else-pass w ↦ rw w.jobs-is (w.push_back_reserved.ensures.capacity ∙ (c.in-Some.ensures.capacity ∙ inv.places))
      ];
      room = elim c.if-pass.branch [
        | then-pass w ↦ rw w.jobs-is (rw w.settled-is (omega (arith, inv.room, c.in-Some.ensures.cases, w.push_reserved.ensures.len)))
        | else-pass w ↦ rw w.jobs-is (rw w.settled-is (omega (arith, inv.room, c.in-Some.ensures.cases, w.push_back_reserved.ensures.len)))
      ];
    }

pub returns-clause-settled : goal.returns-clause-settled
returns-clause-settled c =
    (partly_all c.args.fault c.args.pass c.args.jobs.now.items c.args.settled.now.items c.len-turn-end.result c.loop-turn._turn c.loop-turn.jobs.items c.loop-turn.settled.items c.loop-turn.invariant.partly c.loop-turn-test.false).0

pub returns-clause-jobs : goal.returns-clause-jobs
returns-clause-jobs c =
    (partly_all c.args.fault c.args.pass c.args.jobs.now.items c.args.settled.now.items c.len-turn-end.result c.loop-turn._turn c.loop-turn.jobs.items c.loop-turn.settled.items c.loop-turn.invariant.partly c.loop-turn-test.false).1

pub returns-clause-room : goal.returns-clause-room
returns-clause-room c = (c.loop-turn.invariant.capacity, c.loop-turn.invariant.room)
