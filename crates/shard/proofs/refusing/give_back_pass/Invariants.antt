use Rattle.std.proofs.Common.{◌≡◌, ◌+◌, ◌≤◌, vec_len, vec_capacity}
use Rattle.std.specs.VecDeque.{deque_len, deque_capacity}
use Rattle.shard.proofs.Refusals.{ArePartly}
use Rattle.shard.proofs.refusing.give_back_pass.Given as goal

abbrev pub invariant-loop-turn : goal.invariant-loop-turn
invariant-loop-turn l = record {
  partly : ArePartly l.fault l.pass l.initial.jobs.items l.initial.settled.items l._turn-end l._turn l.jobs.items l.settled.items;
  capacity : vec_capacity l.settled ≡ vec_capacity l.initial.settled;
  places : deque_capacity l.jobs ≡ deque_capacity l.initial.jobs;
  room : vec_len l.settled + deque_len l.jobs ≤ vec_len l.initial.settled + deque_len l.initial.jobs;
}
