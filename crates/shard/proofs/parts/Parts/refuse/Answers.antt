use Rattle.std.proofs.Common.{refl, sym, ap, ◌∙◌, subst}
use Rattle.accept.specs.declared.call.Reply.TheVariants.{Unavailable}
use Rattle.wal.specs.Logs.{slots}
use Rattle.history.specs.Histories.{step_of}
use Rattle.history.specs.Handles.{Booked, Received}
use Rattle.shard.specs.Keeping.{moments}
use Rattle.shard.specs.Shards.{IsShard}
use Rattle.shard.specs.Parts.{seen_of, IsApplied}
use Rattle.shard.proofs.Replies.{due_marked, refused_after}
use Rattle.shard.proofs.Shards.{shard_answered}
use Rattle.shard.proofs.Applied.{applied_quiet}
use Rattle.shard.proofs.Refusals.{refused_shard, refused_kept, refused_step, refused_settled}
use Rattle.shard.proofs.parts.Parts.refuse.Goals as goal

pub refuse-requires-clause-kept : goal.refuse-requires-clause-kept
refuse-requires-clause-kept g c =
    let p = c.args.self.now in
    refused_kept g.D.Disk.sight g.D.Disk.follows p.log.wal p.book p.opened.value p.states p.is_marked p.limits c.args.ticket.ask c.requires.parts c.requires.marked

pub returns-clause-parts : goal.returns-clause-parts
returns-clause-parts g c =
    let p = c.args.self.now in
    subst (λ (b : Booked). IsShard g.D.Disk.sight g.D.Disk.follows p.log.wal b p.opened.value p.states p.is_marked p.limits) (sym c.refuse.ensures.book)
    (refused_shard g.D.Disk.sight g.D.Disk.follows p.log.wal p.book p.opened.value p.states p.is_marked p.limits c.args.ticket.ask c.requires.parts c.requires.marked)

pub returns-clause-frame : goal.returns-clause-frame
returns-clause-frame g c =
    let p = c.args.self.now in
    let due = due_marked p.book c.args.ticket.ask.call (sym c.requires.parts.marked ∙ c.requires.marked) in
    ap (λ (b : Booked). record p { book = b }) (refused_step p.book c.refuse.new.self c.args.ticket.ask due c.refuse.ensures.book)

pub returns-clause-settled : goal.returns-clause-settled
returns-clause-settled g c =
    let p = c.args.self.now in
    let due = due_marked p.book c.args.ticket.ask.call (sym c.requires.parts.marked ∙ c.requires.marked) in
    refused_settled p.book c.refuse.new.self c.args.ticket c.refuse.result.0 c.refuse.result.1 (moments (slots g.D.Disk.sight p.log.wal)) due
    c.refuse.ensures.book c.refuse.ensures.reply c.refuse.ensures.receipt

pub returns-clause-applied : goal.returns-clause-applied
returns-clause-applied g c =
    let p = c.args.self.now in
    let ask = c.args.ticket.ask in
    let sight = g.D.Disk.sight in
    let follows = g.D.Disk.follows in
    let none = refused_after p.book ask Unavailable (sym c.requires.parts.marked ∙ c.requires.marked) refl in
    let received_at : Booked → Received = λ b. record { table = c.args.ticket.table; step = step_of ask Unavailable; upto = b.items; moment = moments (slots sight p.log.wal) } in
    subst (λ (b : Booked). IsApplied sight follows (seen_of p) (record { log = p.log.wal; book = b; opened = p.opened.value }) c.args.ticket c.refuse.result.0 c.refuse.result.1) (sym c.refuse.ensures.book)
    (applied_quiet sight follows (record { counts_now = g.met.D.Disk.counts_now; only_now = g.met.D.Disk.only_now }) p.log.wal p.book p.opened.value p.states p.is_marked p.limits c.args.ticket Unavailable c.refuse.result.0 c.refuse.result.1
    c.requires.parts (shard_answered sight follows p.log.wal p.book p.opened.value p.states p.is_marked p.limits ask Unavailable c.requires.parts none.same)
    none.due none.quiet c.refuse.ensures.reply (c.refuse.ensures.receipt ∙ ap received_at c.refuse.ensures.book))
