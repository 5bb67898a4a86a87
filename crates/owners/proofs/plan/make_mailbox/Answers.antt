use Rattle.std.proofs.Common.{◌+◌, ◌≤◌, ◌∷◌, [], length, length-append, sym, ap, ◌∙◌, subst}
use Rattle.std.specs.Prelude.{None}
use Rattle.owners.specs.Mailboxes.{IsPlace}
use Rattle.owners.proofs.Each.{each_next}
use Rattle.owners.proofs.plan.make_mailbox.Goals as goal

pub loop-preserved : goal.loop-preserved
loop-preserved c =
    let inv = c.loop.invariant in
    record {
      len = ap length c.push_reserved.ensures.items ∙ (length-append c.loop.messages.items (None ∷ []) ∙ ap (λ n. n + 1) inv.len);
      room = subst (λ n. c.args.passes ≤ n) (sym c.push_reserved.ensures.capacity) inv.room;
      places = λ home. each_next (IsPlace home) c.loop.messages.items c.push_reserved.new.self.items None c.loop.counter inv.len c.push_reserved.ensures.items (inv.places home) tt;
    }
