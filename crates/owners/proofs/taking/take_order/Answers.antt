use Rattle.std.proofs.Common.{Some, refl, sym, subst}
use Rattle.owners.specs.declared.messages.ExitReason.TheVariants.{Ordered}
use Rattle.owners.specs.Messages.{IsOrderFor}
use Rattle.owners.specs.Taken.{IsTakenIn}
use Rattle.owners.proofs.taking.take_order.Goals as goal

pub returns-in-Make-clause-mailbox : goal.returns-in-Make-clause-mailbox
returns-in-Make-clause-mailbox c = λ home k mailbox order. c.take_message.ensures.mailbox home k mailbox (subst (IsOrderFor home k) c.in-Make.is order)

pub returns-in-Make-clause-taken : goal.returns-in-Make-clause-taken
returns-in-Make-clause-taken c = subst (λ order. IsTakenIn order c.args.mailbox.now c.take_message.new.mailbox _) (sym c.in-Make.is) (c.take_message.ensures.put, refl)

pub returns-in-End-clause-taken : goal.returns-in-End-clause-taken
returns-in-End-clause-taken c = subst (λ order. IsTakenIn order c.args.mailbox.now c.args.mailbox.now (Some (Ordered c.in-End.last))) (sym c.in-End.is) (refl, refl)
