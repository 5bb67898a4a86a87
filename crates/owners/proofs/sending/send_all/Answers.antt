use Rattle.std.proofs.Common.{rules, ◌≡◌, ◌<◌, length, sym, ap, subst, ◌∙◌}
use Rattle.std.proofs.Common.{vec_len}
use Rattle.keyed.specs.Bindings.{FitsBinding}
use Rattle.keyed.specs.Queues.{sends_to}
use Rattle.keyed.specs.declared.binding.Binding.TheVariants.{Bound}
use Rattle.owners.specs.Homes.{Homed}
use Rattle.owners.specs.Mailboxes.{ArePlaces}
use Rattle.owners.specs.Bonds.{AreBoundFrom}
use Rattle.owners.specs.Messages.{IsAnswerTo}
use Rattle.owners.proofs.MailboxSteps.{end_at, end_set, place_at, place_gone}
use Rattle.owners.proofs.sending.send_all.Goals as goal
use Rattle.owners.proofs.sending.send_all.Goals.{in-Some, in_default}

pub send-requires : goal.send-requires
send-requires g c =
    let home = c.requires.0 in
    let places = c.loop-pass.invariant.places home c.requires.1 in
    let answers = c.loop-pass.invariant.answers home c.requires.2 in
    let at : c.loop-pass.pass < length c.loop-pass.places.items = search rules in
    let lt : c.loop-pass.pass < length c.loop-pass.answers.items = search rules in
    let bound = subst (λ e. sends_to e ≡ Bound home c.loop-pass.pass) (sym c.index_mut.ensures.value)
    (end_at home c.loop-pass.answers.items c.loop-pass.pass c.index_mut.result.now answers lt) in
    subst (λ b. FitsBinding IsAnswerTo b c.in-Some.message) (sym bound)
    (place_at home c.loop-pass.places.items c.loop-pass.pass c.in-Some.message places at (sym c.in-Some.is ∙ c.take_at.ensures.value))

pub loop-pass-preserved : goal.loop-pass-preserved
loop-pass-preserved g c =
    let inv = c.loop-pass.invariant in
    let gone : (home : Homed) → ArePlaces home c.args.places.now.items → ArePlaces home c.take_at.new.places.items = λ home are. subst (ArePlaces home) (sym c.take_at.ensures.after) (place_gone home c.loop-pass.places.items c.loop-pass.pass (inv.places home are)) in
    let lt : c.loop-pass.pass < length c.loop-pass.answers.items = search rules in
    elim c.match-take_at.branch [
      | in-Some w ↦ record {
        len = ap vec_len w.answers-is ∙ inv.len;
        places = gone;
        answers = λ home are.
            let ends = inv.answers home are in
            let here = subst (λ e. sends_to e ≡ Bound home c.loop-pass.pass) (sym w.index_mut.ensures.value) (end_at home c.loop-pass.answers.items c.loop-pass.pass w.index_mut.result.now ends lt) in
            subst (λ v. AreBoundFrom home v.items) (sym w.answers-is) (end_set home c.loop-pass.answers.items c.loop-pass.pass w.send.new.self ends (w.send.ensures.same ∙ here));
      }
      | in_default w ↦ record {
        len = ap vec_len w.answers-is ∙ inv.len;
        places = gone;
        answers = λ home are. subst (λ v. AreBoundFrom home v.items) (sym w.answers-is) (inv.answers home are);
      }
    ]
