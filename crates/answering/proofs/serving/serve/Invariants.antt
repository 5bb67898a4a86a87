-- All requests that have come are answered, but the last ones, and all that was said is written.
use Rattle.std.proofs.Common.{◌≡◌, ◌≤◌, ◌<◌, [], false}
use Rattle.std.specs.VecDeque.{deque_capacity}
use Rattle.answering.specs.Ends.{AreSameEnds}
use Rattle.answering.specs.Serving.{IsUnbegun, world}
use Rattle.answering.proofs.Turning.{Went}
use Rattle.answering.proofs.serving.serve.Given as goal

abbrev pub invariant-loop-turn : goal.invariant-loop-turn
invariant-loop-turn g l = record {
  same : AreSameEnds l.initial.ends l.ends;
  ready : g.S.Calls.is_ready l.service l.pass;
  empty : l.queue.items ≡ [];
  room : 1 ≤ deque_capacity l.queue;
  said : l.connection.text ≡ [];
  goes_on : l.connection.closes ≡ false;
  answers : l.connection.unanswered ≡ false;
  unbegun : 0 < l.connection.room → IsUnbegun l.connection.came;
  went : Went (g.S.Calls.gives l.service) g.C.Clock.ticks (g.I.Read.remaining l.initial.ends.reader.now) (g.O.Write.contents l.initial.ends.writer.now) (world l.initial.pass l.initial.clock)
      (g.I.Read.remaining l.ends.reader.now) (g.O.Write.contents l.ends.writer.now) l.connection.came (world l.pass l.clock);
}
