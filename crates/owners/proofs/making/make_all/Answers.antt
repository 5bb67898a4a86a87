use Rattle.std.proofs.Common.{rules, ◌≡◌, ◌<◌, ◌≤◌, length, sym, ap, subst, ◌∙◌, arith}
use Rattle.std.specs.Vec.{vec_capacity}
use Rattle.shard.specs.Turns.{Turn}
use Rattle.owners.specs.Calls.{AreOfCalls}
use Rattle.owners.specs.Openings.{home_of}
use Rattle.owners.specs.Mailboxes.{max_mailbox}
use Rattle.owners.proofs.Turning.{waiting_open, waiting_ready, turn_of, turn_open, turn_fewer, turn_settled}
use Rattle.owners.proofs.making.make_all.Goals as goal

pub loop-alloc-init : goal.loop-alloc-init
loop-alloc-init g c =
    let opening = c.requires.opening.0 in
    let state = c.requires.opening.1 in
    let mailbox = c.requires.opening.2 in
    let book = c.args.state.now.book in
    let jobs = c.args.mailbox.now.jobs.items in
    let few = c.requires.few in
    let much = mailbox.room_settled in
    record {
      ready = waiting_ready opening.table opening.about book state.table state.about jobs mailbox.waiting mailbox.turn;
      of = λ o is_of at_mailbox. (is_of, waiting_open o.table o.about book.shard jobs at_mailbox.waiting, at_mailbox.messages);
      settled = mailbox.settled;
      fits = omega arith;
      room = mailbox.room;
      room_settled = mailbox.room_settled;
    }

pub loop-alloc-smaller : goal.loop-alloc-smaller
loop-alloc-smaller g c =
    let turn : Turn g.row.D.Denot = record {
      old = c.loop-alloc.state;
      new = c.apply_group.new.self;
      jobs = c.loop-alloc.mailbox.jobs.items;
      rest = c.apply_group.new.jobs.items;
      was = c.loop-alloc.mailbox.settled.items;
      now = c.apply_group.new.settled.items;
      ended = c.apply_group.result;
    } in
    let fewer : length c.apply_group.new.jobs.items < length c.loop-alloc.mailbox.jobs.items = turn_fewer g.D.Disk.sight g.D.Disk.follows c.requires.opening.0 turn c.apply_group.ensures.turn in
    search (rules, fewer)

pub loop-alloc-preserved : goal.loop-alloc-preserved
loop-alloc-preserved g c =
    let inv = c.loop-alloc.invariant in
    let made = c.apply_group.ensures in
    let room = made.room in
    let caps = made.capacities in
    let out = c.hand_out.ensures in
    let same : vec_capacity c.hand_out.result ≡ vec_capacity c.apply_group.new.settled = out.capacity ∙ ap vec_capacity c.replace-settled.ensures.value in
    let turn : Turn g.row.D.Denot = record {
      old = c.loop-alloc.state;
      new = c.apply_group.new.self;
      jobs = c.loop-alloc.mailbox.jobs.items;
      rest = c.apply_group.new.jobs.items;
      was = c.loop-alloc.mailbox.settled.items;
      now = c.apply_group.new.settled.items;
      ended = c.apply_group.result;
    } in
    record {
      ready = made.ready;
      of = λ o is_of at_mailbox.
          let was = inv.of o is_of at_mailbox in
          let settled = turn_settled g.D.Disk.sight g.D.Disk.follows o turn made.turn was.1 inv.settled in
          let there = subst (λ v. AreOfCalls o.table v.items) (sym c.replace-settled.ensures.value) settled in (
            turn_of g.D.Disk.sight g.D.Disk.follows o turn c.args.state.now.book.shard (record { turn = made.turn; covered = made.covered; legal = made.legal; by_passes = made.by_passes }) was.0,
            turn_open g.D.Disk.sight g.D.Disk.follows o turn made.turn was.1,
            out.places (home_of o) there was.2,
          );
      settled = out.none;
      fits = omega arith;
      room = subst (λ n. max_mailbox ≤ n) (sym caps.0) inv.room;
      room_settled = subst (λ n. max_mailbox ≤ n) (sym (same ∙ caps.1)) inv.room_settled;
    }
