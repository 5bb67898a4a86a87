use Rattle.tools.proofs.Outputs.{then_bytes}
use Rattle.tools.proofs.ingest1.read_stream.Goals as goal

pub returns-clause-written : goal.returns-clause-written
returns-clause-written g c =
    then_bytes c.write_bytes-2.result (g.W.Write.contents c.args.output.now) (g.W.Write.contents c.write_bytes.new.output) (g.W.Write.contents c.write_bytes-2.new.output) _ _ c.in_ok-write_bytes.ensures.written c.write_bytes-2.ensures.written
