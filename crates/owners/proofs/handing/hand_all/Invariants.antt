use Rattle.std.proofs.Common.{◌≡◌, ◌+◌}
use Rattle.std.specs.VecDeque.{deque_len}
use Rattle.owners.specs.Openings.{Opening}
use Rattle.owners.specs.Lists.{AreEach}
use Rattle.owners.specs.Owners.{AreEnds, HasEndsOf}
use Rattle.owners.specs.Places.{IsShardAt, AreShardsOf}
use Rattle.owners.proofs.handing.hand_all.Given as goal

abbrev pub invariant-loop-number : goal.invariant-loop-number
invariant-loop-number g l = record {
  ends : (opening : Opening g.row.D.Denot) → AreEnds opening l.fn.all_ends.items → AreEach (HasEndsOf opening) l.number l.all_ends.items;
  shards : (opening : Opening g.row.D.Denot) → AreShardsOf g.D.Disk.sight g.D.Disk.follows opening l.fn.shards.items → AreEach (IsShardAt g.D.Disk.sight g.D.Disk.follows opening) l.number l.shards.items;
  left : l.number + deque_len l.all_ends ≡ l.number-end;
  same : deque_len l.shards ≡ deque_len l.all_ends;
}
