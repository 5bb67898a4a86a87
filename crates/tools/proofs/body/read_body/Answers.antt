use Rattle.std.proofs.Common.{◌≤◌, length, arith}
use Rattle.tools.proofs.Bodies.{whole_body}
use Rattle.tools.proofs.body.read_body.Goals as goal

pub returns-clause-whole : goal.returns-clause-whole
returns-clause-whole g c =
    let items = c.read_to_end.new.buf.items in
    let short : length items ≤ 4194304 = let e = c.read_to_end.new.buf.ok.0 in let l = c.len.ensures in let b = c.if-len-gt-MAX_BODY.false in omega arith in
    whole_body (λ input. g.I.Read.remaining input.now) c.take.result.inner _ c.take.result.limit 4194304 c.new-body.result.items items c.new-body.ensures.items c.take.ensures.limit c.take.ensures.inner c.in_default.ensures.bytes short
