use Rattle.std.proofs.Common.{◌+◌, ap, ◌∙◌}
use Rattle.history.proofs.Lines.{alone_before}
use Rattle.threads.proofs.meetings.call.Goals as goal

pub answer-receipt-requires-clause-alone : goal.answer-receipt-requires-clause-alone
answer-receipt-requires-clause-alone g c =
    let k = c.args.pass.now.caller in
    ap (λ t. t.before) c.in-Ok.ensures.ticket ∙ alone_before k (k.last + 1) c.args.read.now c.requires.idle
