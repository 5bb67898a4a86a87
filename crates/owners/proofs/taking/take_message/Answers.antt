use Rattle.std.proofs.Common.{refl, sym, subst, arith}
use Rattle.owners.specs.declared.messages.ShardMessage.{ShardMessage}
use Rattle.owners.specs.declared.mailbox.Mailbox.{Mailbox}
use Rattle.owners.specs.Mailboxes.{ArePlaces}
use Rattle.owners.proofs.Each.{set_beyond}
use Rattle.owners.proofs.MailboxSteps.{message_emptied, place_new, mailbox_more}
use Rattle.owners.proofs.taking.take_message.Goals as goal

pub returns-then-pass-len-clause-mailbox : goal.returns-then-pass-len-clause-mailbox
returns-then-pass-len-clause-mailbox c =
    let old : Mailbox = c.args.mailbox.now in
    let p = c.args.message.pass in
    let came : ShardMessage = record { pass = p; jobs = c.move_jobs.new.from; settled = c.args.message.settled } in
    λ h k mailbox message.
    let now = subst (ArePlaces h) (sym c.put_at.ensures) (place_new h c.args.mailbox.now.messages.items p came mailbox.messages (message_emptied h came c.move_jobs.ensures.none message.settled)) in
    mailbox_more h k p old _ c.args.message.jobs.items mailbox message.batch c.move_jobs.ensures.items refl now c.move_jobs.ensures.capacity

pub returns-else-pass-len-clause-mailbox : goal.returns-else-pass-len-clause-mailbox
returns-else-pass-len-clause-mailbox c =
    let old : Mailbox = c.args.mailbox.now in
    λ h k mailbox message. mailbox_more h k c.args.message.pass old _ c.args.message.jobs.items mailbox message.batch c.move_jobs.ensures.items refl mailbox.messages c.move_jobs.ensures.capacity

pub returns-then-pass-len-clause-put : goal.returns-then-pass-len-clause-put
returns-then-pass-len-clause-put c = record {
  jobs = c.move_jobs.ensures.items;
  emptied = record { pass = c.args.message.pass; jobs = c.move_jobs.new.from; settled = c.args.message.settled };
  pass = refl;
  place = c.put_at.ensures;
}

pub returns-else-pass-len-clause-put : goal.returns-else-pass-len-clause-put
returns-else-pass-len-clause-put c = record {
  jobs = c.move_jobs.ensures.items;
  emptied = record { pass = c.args.message.pass; jobs = c.move_jobs.new.from; settled = c.args.message.settled };
  pass = refl;
  place = sym (set_beyond c.args.mailbox.now.messages.items c.args.message.pass _ (omega (arith, c.if-pass-len.false)));
}
