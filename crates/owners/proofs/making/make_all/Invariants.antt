use Rattle.std.proofs.Common.{◌≡◌, ◌≤◌, []}
use Rattle.std.specs.Vec.{vec_capacity}
use Rattle.std.specs.VecDeque.{deque_len, deque_capacity}
use Rattle.shard.specs.Jobs.{tickets_of}
use Rattle.shard.specs.Turns.{AreReady}
use Rattle.owners.specs.Calls.{AreSureTickets}
use Rattle.owners.specs.Openings.{Opening, home_of}
use Rattle.owners.specs.Places.{IsOf}
use Rattle.owners.specs.Mailboxes.{max_mailbox, ArePlaces, IsMailbox}
use Rattle.owners.proofs.making.make_all.Given as goal

abbrev pub invariant-loop-alloc : goal.invariant-loop-alloc
invariant-loop-alloc g l = record {
  ready : AreReady l.state.book l.mailbox.jobs.items;
  of : (opening : Opening g.row.D.Denot) → IsOf g.D.Disk.sight g.D.Disk.follows opening l.fn.state.book.shard l.fn.state → IsMailbox (home_of opening) l.fn.state.book.shard l.fn.mailbox
      → IsOf g.D.Disk.sight g.D.Disk.follows opening l.fn.state.book.shard l.state × AreSureTickets opening.table (tickets_of l.mailbox.jobs.items) × ArePlaces (home_of opening) l.mailbox.messages.items;
  settled : l.mailbox.settled.items ≡ [];
  fits : deque_len l.mailbox.jobs ≤ vec_capacity l.mailbox.settled;
  room : max_mailbox ≤ deque_capacity l.mailbox.jobs;
  room_settled : max_mailbox ≤ vec_capacity l.mailbox.settled;
}

abbrev pub decreases-loop-alloc : goal.decreases-loop-alloc
decreases-loop-alloc g l = deque_len l.mailbox.jobs
