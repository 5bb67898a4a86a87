use Rattle.std.proofs.Common.{◌≡◌, ◌+◌, ◌≤◌, ◌++◌, All, vec_len}
use Rattle.std.specs.Vec.{vec_capacity}
use Rattle.std.specs.VecDeque.{deque_len}
use Rattle.openings.specs.Places.{IsOpened, logs_in, images_in}
use Rattle.openings.proofs.side_by_side.take_opened.Given as goal

abbrev pub invariant-loop-place : goal.invariant-loop-place
invariant-loop-place g l = record {
  opened : All IsOpened l.places.items;
  logs : l.logs.items ++ logs_in l.places.items ≡ logs_in l.initial.places.items;
  images : l.images.items ++ images_in l.places.items ≡ images_in l.initial.places.items;
  logs_room : vec_len l.logs + deque_len l.places ≤ vec_capacity l.logs;
  images_room : vec_len l.images + deque_len l.places ≤ vec_capacity l.images;
}

abbrev pub decreases-loop-place : goal.decreases-loop-place
decreases-loop-place g l = deque_len l.places
