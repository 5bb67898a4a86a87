use Rattle.std.proofs.Common.{◌++◌}
use Rattle.std.proofs.KnownBytes.{Appends-trans}
use Rattle.tools.proofs.ingest1.read_back.Goals as goal

pub loop-batch-preserved : goal.loop-batch-preserved
loop-batch-preserved g c =
    let before = c.loop-batch.invariant.3 in
    let more = c.in_ok-read_stream.ensures.written in
    (tt, tt, c.read_stream.ensures.pass, (before.0 ++ more.0, Appends-trans _ _ _ before.0 more.0 before.1 more.1))
