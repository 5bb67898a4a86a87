use Rattle.programs.proofs.TooLong.{one_more, none_more}
use Rattle.programs.proofs.durations.nanos_in.Goals as goal

pub returns-in-None-clause-reads : goal.returns-in-None-clause-reads
returns-in-None-clause-reads c = none_more c.loop-byte.parts c.args.bytes.now c.loop-byte.byte-index _ c.loop-byte-test.true c.in-None.ensures c.loop-byte.invariant

pub loop-byte-preserved : goal.loop-byte-preserved
loop-byte-preserved c = one_more c.loop-byte.parts c.in-Some.more c.args.bytes.now c.loop-byte.byte-index _ c.loop-byte-test.true c.in-Some.ensures c.loop-byte.invariant
