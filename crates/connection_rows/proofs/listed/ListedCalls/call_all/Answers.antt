use Rattle.std.proofs.Common.{◌≡◌, Bool, false, List, [], ◌∷◌, ◌++◌, length, Result, refl, sym, ap, ◌∙◌, subst, append_assoc, arith}
use Rattle.std.proofs.lemmas.Grind.{common_steps}
use Rattle.std.proofs.lemmas.List.{append-nil}
use Rattle.accept.specs.declared.call.Call.{Call}
use Rattle.accept.specs.declared.call.Reply.{Reply}
use Rattle.accept.specs.Doubts.{is_doubt}
use Rattle.accept.specs.declared.fault.CallFault.{CallFault}
use Rattle.answering.specs.Calls.{CallsGiveAfter}
use Rattle.connection_rows.specs.declared.script.Script.{Script}
use Rattle.connection_rows.proofs.listed.ListedCalls.call_all.Goals as goal

abbrev Given : Bool → Script → List Call → List (Result Reply CallFault) → Script → Type 0
Given = CallsGiveAfter (λ doubt old call told new. Unit {0})

pub loop-call-init : goal.loop-call-init
loop-call-init g c = record {
  given = (false, λ rs h given. rw c.requires.empty given);
  lens = omega (arith, c.args.outcomes.now.ok.0, ap length c.requires.empty);
  room = omega (arith, c.args.outcomes.now.ok.0, ap length c.requires.empty, c.requires.room);
  calls_room = refl;
  outcomes_room = refl;
}

pub loop-call-preserved : goal.loop-call-preserved
loop-call-preserved g c =
    let inv = c.loop-call.invariant in
    let (doubt, so_far) = inv.given in
    let r = c.make.result in
    record {
      given = (
        is_doubt r,
        λ rs h given.
            let more = so_far (r ∷ rs) h (subst (λ l. Given doubt c.loop-call.pass l (r ∷ rs) h) (sym c.in-Some.ensures.items) (c.make.new.self, tt, given)) in
            let same : c.push_back_reserved.new.self.items ++ rs ≡ c.loop-call.outcomes.items ++ r ∷ rs = ap (λ l. l ++ rs) c.push_back_reserved.ensures.items ∙ append_assoc c.loop-call.outcomes.items (r ∷ []) rs in
            subst (λ l. Given false c.args.pass.now c.args.calls.now.items l h) (sym same) more,
      );
      lens = omega (arith, inv.lens, c.in-Some.ensures.len, c.push_back_reserved.ensures.len);
      room = omega (arith, inv.room, c.in-Some.ensures.len, c.push_back_reserved.ensures.len, c.push_back_reserved.ensures.capacity);
      calls_room = c.in-Some.ensures.capacity ∙ inv.calls_room;
      outcomes_room = c.push_back_reserved.ensures.capacity ∙ inv.outcomes_room;
    }

pub returns-clause-given : goal.returns-clause-given
returns-clause-given g c =
    let inv = c.loop-call.invariant in
    let (doubt, so_far) = inv.given in
    let none : c.loop-call.calls.items ≡ [] = grind (arith, common_steps) in
    let given = so_far [] c.loop-call.pass (subst (λ l. Given doubt c.loop-call.pass l [] c.loop-call.pass) (sym none) refl) in
    subst (λ l. Given false c.args.pass.now c.args.calls.now.items l c.loop-call.pass) (append-nil c.loop-call.outcomes.items) given
