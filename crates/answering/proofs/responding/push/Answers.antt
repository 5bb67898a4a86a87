use Rattle.std.proofs.Common.{◌≤◌, sym, subst, arith}
use Rattle.std.specs.VecDeque.{deque_len}
use Rattle.answering.specs.Windows.{AreStreams, called}
use Rattle.answering.proofs.Going.{push, no_memory}
use Rattle.answering.proofs.responding.push.Goals as goal

pub returns-in-Ok-clause-responds : goal.returns-in-Ok-clause-responds
returns-in-Ok-clause-responds g c now tenant body (all, asks, are) =
    let streams = c.args.streams in
    push (g.S.Calls.gives c.args.service.now) now tenant body c.args.pass.now c.take_windows.new.pass all c.take_windows.result asks
    (c.take_windows.ensures.goes tenant all (subst (λ l. AreStreams tenant all l c.in-Ok.windows.left.items) (sym c.as_slice.ensures.value) (subst (λ l. AreStreams tenant all streams.places.items l.items) (sym c.in-Ok.ensures.left) are)))

pub returns-clause-responds : goal.returns-clause-responds
returns-clause-responds g c now tenant body asks = no_memory (g.S.Calls.gives c.args.service.now) now tenant body c.args.pass.now

pub take_windows-requires-clause-enough : goal.take_windows-requires-clause-enough
take_windows-requires-clause-enough g c =
    let streams = c.args.streams in
    subst (λ l. called l ≤ deque_len c.in-Ok.windows.left) (sym c.as_slice.ensures.value) (subst (λ l. called streams.places.items ≤ deque_len l) (sym c.in-Ok.ensures.left) (omega (arith, streams.counted)))
