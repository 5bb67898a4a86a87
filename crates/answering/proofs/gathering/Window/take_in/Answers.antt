use Rattle.std.proofs.Common.{All, subst}
use Rattle.accept.specs.Calls.{AreNumbers}
use Rattle.answering.specs.Demands.{SameCalls, WaitsFor, calls_asked}
use Rattle.answering.specs.declared.demands.Demand.TheVariants.{Streams}
use Rattle.answering.proofs.Together.{numbers_either_way}
use Rattle.answering.proofs.gathering.Window.take_in.Goals as goal

pub returns-in-Streams-clause-numbers : goal.returns-in-Streams-clause-numbers
returns-in-Streams-clause-numbers c =
    let streams = c.in-Streams.streams in
    numbers_either_way (WaitsFor (Streams streams)) (SameCalls (Streams streams)) c.take_streams.result c.args.self.now.calls.items c.take_streams.new.self.calls.items streams.calls.items c.take_streams.ensures.ok c.take_streams.ensures.err c.requires.numbers
    (subst (λ d. All AreNumbers (calls_asked d)) c.in-Streams.is c.requires.more)
