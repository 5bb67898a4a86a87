use denote.Param.{param}
use denote.Param.Send.{sendable}
use Rattle.ingester.proofs.Sent.{ingester_sync}
use Rattle.std.proofs.Common.{rules, OnOk}
use Rattle.front.specs.Clocks.{IsTick}
use Rattle.front.specs.declared.clock.SystemClock.{SystemClock}
use Rattle.front.specs.Endings.{HasServedAsAsked}
use Rattle.front.specs.declared.connections.Connections.{Connections}
use Rattle.front.specs.declared.connections.KeptConnection.{KeptConnection}
use Rattle.front.specs.declared.full_lines.FullShardLines.{FullShardLines}
use Rattle.front.proofs.ServedPasses.{as_asked}
use Rattle.front.proofs.server.serve_port.Goals as goal

pub serve_listener-passes-requires-sync-I : goal.serve_listener-passes-requires-sync-I
serve_listener-passes-requires-sync-I g c κs within =
    let shared = ingester_sync (param 0 g.row.D) g.D.Disk c.type_bounds.send-D in search (shared, sendable) depth 20

pub returns-clause-over : goal.returns-clause-over
returns-clause-over g c =
    let R = g.row.R.Denot in
    let asked = c.args.asked.now in
    let served = c.serve_listener-passes in
    let all : OnOk served.result.1 (HasServedAsAsked (IsTick {R = R}) asked.environment.now asked.words) =
    as_asked (IsTick {R = R}) (λ (s : Connections (SystemClock R) (FullShardLines R)). s.clock) (λ (k : KeptConnection (SystemClock R)). k.connection) c.args.ingester.now
    served.result.1 asked.limits asked.words asked.environment.now asked.capacity c.args.ingester.now c.args.passes.items served.result.0.items asked.given asked.room c.requires.opened c.requires.over served.ensures.left in
    search rules
