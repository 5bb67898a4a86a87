use Rattle.std.proofs.Common.{◌≡◌, [], refl, sym, ap, ◌∙◌, subst}
use Rattle.headline.proofs.Common.{Step, IsFirst, step_of, HasSeenStep, IsRested, collect_to, withdraw_to, Announced, Passed, opening_of}
use Rattle.one_life.proofs.Cutting.{given_by}
use Rattle.whole.proofs.Calling.{IsJustAnnounced, ready, same_table, ticket_table, same_pass, first_if, taken_back, idle_collected, idle_withdrawn}
use Rattle.whole.proofs.by_turns.call_by_turn.Goals as goal

pub take_turn-requires : goal.take_turn-requires
take_turn-requires g c =
    let book = c.args.shard.now.book in
    let was : Passed = c.args.pass.now in
    let asked : IsJustAnnounced c.args.history.now book.about was c.requires.pass c.args.call c.in-Ok.ticket c.announce.new.pass = record { ticket_is = c.in-Ok.ensures.ticket; pass = c.in-Ok.ensures.pass } in
    ready c.args.history.now book.about was c.requires.pass c.args.call c.in-Ok.ticket c.announce.new.pass asked book c.requires.table refl c.requires.here c.requires.numbers

pub collect-requires : goal.collect-requires
collect-requires g c =
    let about = c.args.shard.now.book.about in
    let table = c.args.history.now in
    let was : Passed = c.args.pass.now in
    let asked : IsJustAnnounced table about was c.requires.pass c.args.call c.in-Ok.ticket c.announce.new.pass = record { ticket_is = c.in-Ok.ensures.ticket; pass = c.in-Ok.ensures.pass } in
    let its = c.in-Answered.ensures.settled in
    record {
      table = (
        same_table table about was c.requires.pass c.args.call c.in-Ok.ticket c.announce.new.pass asked,
        its.0 ∙ ticket_table table about was c.requires.pass c.args.call c.in-Ok.ticket c.announce.new.pass asked,
      );
      pass = ap (λ (s : Step). s.ask.pass) its.1 ∙ same_pass table about was c.requires.pass c.args.call c.in-Ok.ticket c.announce.new.pass asked;
      number = first_if table about was c.requires.pass c.args.call c.in-Ok.ticket c.announce.new.pass asked c.in-Answered.receipt.step.ask;
      rested = subst (λ (p : Passed). IsRested p.caller) (sym asked.pass) (c.in-Ok.ensures.rested c.requires.pass.idle);
    }

pub withdraw-requires : goal.withdraw-requires
withdraw-requires g c =
    let about = c.args.shard.now.book.about in
    let table = c.args.history.now in
    let was : Passed = c.args.pass.now in
    let asked : IsJustAnnounced table about was c.requires.pass c.args.call c.in-Ok.ticket c.announce.new.pass = record { ticket_is = c.in-Ok.ensures.ticket; pass = c.in-Ok.ensures.pass } in
    let its = c.in-GivenBack.ensures.settled in
    record {
      table = (
        same_table table about was c.requires.pass c.args.call c.in-Ok.ticket c.announce.new.pass asked,
        ap (λ (t : Announced). t.table) its ∙ ticket_table table about was c.requires.pass c.args.call c.in-Ok.ticket c.announce.new.pass asked,
      );
      pass = (
        ap (λ (t : Announced). t.ask.pass) its ∙ same_pass table about was c.requires.pass c.args.call c.in-Ok.ticket c.announce.new.pass asked,
        ap (λ (t : Announced). t.doubted) its ∙ ap (λ (t : Announced). t.doubted) asked.ticket_is,
      );
      number = first_if table about was c.requires.pass c.args.call c.in-Ok.ticket c.announce.new.pass asked c.in-GivenBack.ticket.ask;
    }

pub returns-in-Answered : goal.returns-in-Answered
returns-in-Answered g c =
    let book = c.args.shard.now.book in
    let table = c.args.history.now in
    let was : Passed = c.args.pass.now in
    let now : Passed = c.collect.new.pass in
    let receipt = c.in-Answered.receipt in
    let mid = c.in-Ok.ensures.pass in
    let is = subst (λ (p : Passed). now ≡ record p { caller = collect_to p.caller receipt.step receipt.upto }) mid c.collect.ensures.pass in
    let given = given_by (opening_of {D = g.row.D.Denot} book []) was now c.args.call c.in-Answered.reply receipt
    (record { table = c.requires.pass.same_table ∙ sym c.requires.table; about = c.requires.pass.same_about; idle = λ e. c.requires.pass.idle })
    (c.in-Ok.ensures.open.0 refl)
    (c.in-Answered.ensures.settled.1 ∙ ap (λ (t : Announced). step_of t.ask c.in-Answered.reply) c.in-Ok.ensures.ticket)
    (subst (λ (p : Passed). IsFirst receipt.step.ask p.caller.pending) mid c.collect.ensures.first)
    is
    (subst (λ (p : Passed). HasSeenStep p.caller now.caller receipt.step receipt.upto) mid c.collect.ensures.seen)
    c.collect.ensures.rested in
    record {
      turned = c.in-Answered.ensures.turned;
      given = given.0;
      pass = idle_collected table book.about was c.requires.pass c.args.call now receipt.step receipt.upto is;
    }

pub returns-in-GivenBack : goal.returns-in-GivenBack
returns-in-GivenBack g c =
    let book = c.args.shard.now.book in
    let table = c.args.history.now in
    let was : Passed = c.args.pass.now in
    let new : Passed = c.withdraw.new.pass in
    let back = c.in-GivenBack.ticket in
    let asked : IsJustAnnounced table book.about was c.requires.pass c.args.call c.in-Ok.ticket c.announce.new.pass = record { ticket_is = c.in-Ok.ensures.ticket; pass = c.in-Ok.ensures.pass } in
    let is = subst (λ (p : Passed). new ≡ record p { caller = withdraw_to p.caller back.ask.number }) asked.pass c.withdraw.ensures.pass in
    record {
      turned = c.in-GivenBack.ensures.turned;
      given = taken_back table book.about was c.requires.pass c.args.call c.in-Ok.ticket c.announce.new.pass asked (opening_of {D = g.row.D.Denot} book []) new c.in-GivenBack.fault c.fault_of.result back c.requires.table refl (c.in-Ok.ensures.open.0 refl) c.fault_of.ensures c.withdraw.ensures.first c.withdraw.ensures.pass;
      pass = idle_withdrawn table book.about was c.requires.pass c.args.call new back.ask.number is;
    }
