use Rattle.std.proofs.Common.{◌≡◌, None, ◌∙◌, [], ◌∷◌, refl, ap, subst}
use Rattle.keyed.specs.Bindings.{FitsBinding}
use Rattle.owners.specs.Messages.{IsOrderFor}
use Rattle.owners.specs.Taken.{AreTakenIn}
use Rattle.owners.proofs.QueueSteps.{none_left}
use Rattle.owners.proofs.taking.take_group.Goals as goal

pub loop-init : goal.loop-init
loop-init g c = record {
  same = c.receive.ensures.same;
  mailbox = λ home k bound mailbox. c.take_order-ending.ensures.mailbox home k mailbox (subst (λ b. FitsBinding IsOrderFor b c.in-Ok.first) bound c.in-Ok.ensures.fits);
  few = c.take_order-ending.ensures.few;
  taken = (c.in-Ok.first ∷ [], c.in-Ok.ensures.received, (c.args.mailbox.now, (refl, refl), c.take_order-ending.ensures.taken));
}

pub take_order-ending-requires-in-loop-clause-order : goal.take_order-ending-requires-in-loop-clause-order
take_order-ending-requires-in-loop-clause-order g c =
    let inv = c.loop.invariant in
    let opened = c.requires.mailbox in (
      opened.0,
      opened.1,
      inv.mailbox opened.0 opened.1 opened.2 opened.3,
      subst (λ b. FitsBinding IsOrderFor b c.in-Some.next) (inv.same ∙ opened.2) c.in-Some.ensures.fits,
    )

pub loop-preserved : goal.loop-preserved
loop-preserved g c =
    let inv = c.loop.invariant in
    let open_still : c.loop.ending ≡ None = none_left c.loop.ending cc in
    record {
      same = c.try_receive.ensures.same ∙ inv.same;
      mailbox = λ home k bound mailbox. c.take_order-ending-in-loop.ensures.mailbox home k (inv.mailbox home k bound mailbox) (subst (λ b. FitsBinding IsOrderFor b c.in-Some.next) (inv.same ∙ bound) c.in-Some.ensures.fits);
      few = c.take_order-ending-in-loop.ensures.few;
      taken = (
        c.in-Some.next ∷ inv.taken.0,
        c.in-Some.ensures.received ∙ ap (λ l. c.in-Some.next ∷ l) inv.taken.1,
        (c.loop.mailbox, subst (AreTakenIn inv.taken.0 c.args.mailbox.now c.loop.mailbox) open_still inv.taken.2, c.take_order-ending-in-loop.ensures.taken),
      );
    }
