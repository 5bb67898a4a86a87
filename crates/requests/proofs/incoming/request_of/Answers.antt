use Rattle.requests.proofs.Messages.{next_whole, next_unfinished}
use Rattle.std.proofs.Common.{arith}
use Rattle.requests.proofs.incoming.request_of.Goals as goal

pub returns-then-length-message-clause-next : goal.returns-then-length-message-clause-next
returns-then-length-message-clause-next c =
    let (h, at) = c.requires.head in
    next_unfinished c.args.bytes.now c.args.fields.now c.args.spans h at c.requires.within c.requires.room c.requires.short c.requires.unread c.in-Ok.message (c.in-Ok.ensures h at)
    _ c.if-length-message.true (omega (arith, c.max.ensures))

pub returns-clause-next : goal.returns-clause-next
returns-clause-next c =
    let (h, at) = c.requires.head in
    next_whole c.args.bytes.now c.args.fields.now c.args.spans h at c.requires.within c.requires.room c.requires.short c.requires.unread c.in-Ok.message (c.in-Ok.ensures h at)
    (omega (arith, c.if-length-message.false))
