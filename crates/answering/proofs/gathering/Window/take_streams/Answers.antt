use Rattle.std.proofs.Common.{◌≤◌, ◌+◌, is_ok, arith}
use Rattle.std.specs.VecDeque.{deque_capacity, deque_len}
use Rattle.answering.proofs.Pushing.{called_most}
use Rattle.answering.proofs.Together.{grown}
use Rattle.answering.proofs.gathering.Window.take_streams.Goals as goal

pub invariant_of-self : goal.invariant_of-self
invariant_of-self c =
    let streams = c.args.streams in
    let held = deque_len c.has_room.new.self.calls in
    let (few, room) = c.has_room.ensures.room c.if-has_room.true in
    let most = called_most streams.places.items in
    let fit : held + deque_len streams.calls ≤ 64 = omega (arith, few, most, streams.counted, c.len.ensures, streams.places.ok) in
    let fits : held + deque_len streams.calls ≤ deque_capacity c.has_room.new.self.outcomes = omega (arith, room, most, streams.counted, c.len.ensures, streams.places.ok) in
    record {
      few = grown (is_ok c.append.result) (deque_len c.append.new.self) held (deque_len streams.calls) 64 c.append.ensures.len fit;
      room = grown (is_ok c.append.result) (deque_len c.append.new.self) held (deque_len streams.calls) (deque_capacity c.has_room.new.self.outcomes) c.append.ensures.len fits;
    }
