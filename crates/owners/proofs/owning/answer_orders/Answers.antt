use Rattle.std.proofs.Common.{ℕ, ◌∙◌, sym, subst}
use Rattle.owners.specs.Mailboxes.{IsMailbox}
use Rattle.owners.specs.Openings.{home_of}
use Rattle.owners.specs.Places.{IsOf}
use Rattle.owners.proofs.owning.answer_orders.Goals as goal

pub loop-init : goal.loop-init
loop-init g c = record { owner = λ k is. is }

pub take_group-ending-requires-clause-mailbox : goal.take_group-ending-requires-clause-mailbox
take_group-ending-requires-clause-mailbox g c =
    let is = c.loop.invariant.owner c.requires.0 c.requires.1 in
    (home_of c.loop.ends.origin, c.requires.0, is.has_ends.gets, is.has_ends.at_mailbox)

pub take_group-ending-requires-clause-idle : goal.take_group-ending-requires-clause-idle
take_group-ending-requires-clause-idle g c = (c.loop.invariant.owner c.requires.0 c.requires.1).has_ends.idle

pub make_all-requires-clause-opening : goal.make_all-requires-clause-opening
make_all-requires-clause-opening g c =
    let k = c.requires.0 in
    let inv = c.loop.invariant.owner k c.requires.1 in
    let o = c.loop.ends.origin in
    let here = sym inv.is_of.number in
    let is_of = subst (λ (n : ℕ). IsOf g.D.Disk.sight g.D.Disk.follows o n c.loop.state) here inv.is_of in
    let at_mailbox = subst (λ (n : ℕ). IsMailbox (home_of o) n c.take_group-ending.new.mailbox) here (c.take_group-ending.ensures.mailbox (home_of o) k inv.has_ends.gets inv.has_ends.at_mailbox) in
    (o, is_of, at_mailbox)

pub make_all-requires-clause-few : goal.make_all-requires-clause-few
make_all-requires-clause-few g c = c.take_group-ending.ensures.few

pub send_all-requires : goal.send_all-requires
send_all-requires g c =
    let k = c.requires.0 in
    let inv = c.loop.invariant.owner k c.requires.1 in
    let o = c.loop.ends.origin in
    let here = sym inv.is_of.number in
    let is_of = subst (λ (n : ℕ). IsOf g.D.Disk.sight g.D.Disk.follows o n c.loop.state) here inv.is_of in
    let at_mailbox = subst (λ (n : ℕ). IsMailbox (home_of o) n c.take_group-ending.new.mailbox) here (c.take_group-ending.ensures.mailbox (home_of o) k inv.has_ends.gets inv.has_ends.at_mailbox) in
    (home_of o, (c.make_all.ensures.mailbox o is_of at_mailbox).messages, inv.has_ends.sends)

pub loop-preserved : goal.loop-preserved
loop-preserved g c = record {
  owner = λ k are.
      let inv = c.loop.invariant.owner k are in
      let o = c.loop.ends.origin in
      let here = sym inv.is_of.number in
      let is_of = subst (λ (n : ℕ). IsOf g.D.Disk.sight g.D.Disk.follows o n c.loop.state) here inv.is_of in
      let at_mailbox = subst (λ (n : ℕ). IsMailbox (home_of o) n c.take_group-ending.new.mailbox) here (c.take_group-ending.ensures.mailbox (home_of o) k inv.has_ends.gets inv.has_ends.at_mailbox) in
      let mailbox = subst (λ (n : ℕ). IsMailbox (home_of o) n c.make_all.new.mailbox) inv.is_of.number (c.make_all.ensures.mailbox o is_of at_mailbox) in
      record {
        has_ends = record {
          gets = c.take_group-ending.ensures.same ∙ inv.has_ends.gets;
          sends = c.send_all.ensures.answers (home_of o) inv.has_ends.sends;
          returns = inv.has_ends.returns;
          at_mailbox = record {
            waiting = mailbox.waiting;
            turn = mailbox.turn;
            settled = mailbox.settled;
            messages = c.send_all.ensures.places (home_of o) mailbox.messages;
            room = mailbox.room;
            room_settled = mailbox.room_settled;
          };
          idle = c.make_all.ensures.made.1;
        };
        is_of = subst (λ (n : ℕ). IsOf g.D.Disk.sight g.D.Disk.follows o n c.make_all.new.state) inv.is_of.number (c.make_all.ensures.state o is_of at_mailbox);
      };
}

pub returns-in-Some-ending : goal.returns-in-Some-ending
returns-in-Some-ending g c = λ k are.
    let inv = c.loop.invariant.owner k are in
    let o = c.loop.ends.origin in
    let here = sym inv.is_of.number in
    let is_of = subst (λ (n : ℕ). IsOf g.D.Disk.sight g.D.Disk.follows o n c.loop.state) here inv.is_of in
    let at_mailbox = subst (λ (n : ℕ). IsMailbox (home_of o) n c.take_group-ending.new.mailbox) here (c.take_group-ending.ensures.mailbox (home_of o) k inv.has_ends.gets inv.has_ends.at_mailbox) in
    let mailbox = subst (λ (n : ℕ). IsMailbox (home_of o) n c.make_all.new.mailbox) inv.is_of.number (c.make_all.ensures.mailbox o is_of at_mailbox) in
    record {
      has_ends = record {
        gets = c.take_group-ending.ensures.same ∙ inv.has_ends.gets;
        sends = c.send_all.ensures.answers (home_of o) inv.has_ends.sends;
        returns = inv.has_ends.returns;
        at_mailbox = record {
          waiting = mailbox.waiting;
          turn = mailbox.turn;
          settled = mailbox.settled;
          messages = c.send_all.ensures.places (home_of o) mailbox.messages;
          room = mailbox.room;
          room_settled = mailbox.room_settled;
        };
        idle = c.make_all.ensures.made.1;
      };
      is_of = subst (λ (n : ℕ). IsOf g.D.Disk.sight g.D.Disk.follows o n c.make_all.new.state) inv.is_of.number (c.make_all.ensures.state o is_of at_mailbox);
    }
