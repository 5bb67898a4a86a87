use Rattle.std.proofs.Common.{◌≡◌, false, [], ◌∷◌, ◌++◌, length, refl, sym, ap, ◌∙◌, subst, append_assoc, arith, append-nil}
use Rattle.std.proofs.lemmas.Grind.{common_steps}
use Rattle.accept.specs.Doubts.{is_doubt}
use Rattle.accept.specs.Calls.{AreNumbers}
use Rattle.whole.proofs.Common.{CallsGiveAfter, FirstGives}
use Rattle.whole.proofs.Calling.{by_itself, all_first, all_behind}
use Rattle.whole.proofs.by_turns.ByTurnsCalls.call_all.Goals as goal

pub loop-call-init : goal.loop-call-init
loop-call-init g c = record {
  ready = c.requires.ready;
  numbers = c.requires.numbers;
  given = (false, λ rs h given. rw c.requires.empty given);
  lens = omega (arith, c.args.outcomes.now.ok.0, ap length c.requires.empty);
  room = omega (arith, c.args.outcomes.now.ok.0, ap length c.requires.empty, c.requires.room);
  calls_room = refl;
  outcomes_room = refl;
}

pub call-outcome-requires : goal.call-outcome-requires
call-outcome-requires g c = record {
  ready = c.loop-call.invariant.ready;
  numbers = all_first AreNumbers c.in-Some.call c.pop_front.new.self.items c.loop-call.calls.items c.in-Some.ensures.items c.loop-call.invariant.numbers;
}

pub loop-call-preserved : goal.loop-call-preserved
loop-call-preserved g c =
    let inv = c.loop-call.invariant in
    let (doubt, so_far) = inv.given in
    let r = c.call-outcome.result in
    record {
      ready = c.call-outcome.ensures.ready;
      numbers = all_behind AreNumbers c.in-Some.call c.pop_front.new.self.items c.loop-call.calls.items c.in-Some.ensures.items inv.numbers;
      given = (
        is_doubt r,
        λ rs h given.
            let made = by_itself c.loop-call.pass c.call-outcome.new.pass c.in-Some.call r c.call-outcome.ensures.gives doubt in
            let more = so_far (r ∷ rs) h (subst (λ l. CallsGiveAfter FirstGives doubt c.loop-call.pass l (r ∷ rs) h) (sym c.in-Some.ensures.items) (c.call-outcome.new.pass, made, given)) in
            let same : c.push_back_reserved.new.self.items ++ rs ≡ c.loop-call.outcomes.items ++ r ∷ rs = ap (λ l. l ++ rs) c.push_back_reserved.ensures.items ∙ append_assoc c.loop-call.outcomes.items (r ∷ []) rs in
            subst (λ l. CallsGiveAfter FirstGives false c.args.pass.now c.args.calls.now.items l h) (sym same) more,
      );
      lens = omega (arith, inv.lens, c.in-Some.ensures.len, c.push_back_reserved.ensures.len);
      room = omega (arith, inv.room, c.in-Some.ensures.len, c.push_back_reserved.ensures.len, c.push_back_reserved.ensures.capacity);
      calls_room = c.in-Some.ensures.capacity ∙ inv.calls_room;
      outcomes_room = c.push_back_reserved.ensures.capacity ∙ inv.outcomes_room;
    }

pub returns-clause-given : goal.returns-clause-given
returns-clause-given g c =
    let inv = c.loop-call.invariant in
    let (doubt, so_far) = inv.given in
    let none : c.loop-call.calls.items ≡ [] = grind (arith, common_steps) in
    let given = so_far [] c.loop-call.pass (subst (λ l. CallsGiveAfter FirstGives doubt c.loop-call.pass l [] c.loop-call.pass) (sym none) refl) in
    subst (λ l. CallsGiveAfter FirstGives false c.args.pass.now c.args.calls.now.items l c.loop-call.pass) (append-nil c.loop-call.outcomes.items) given
