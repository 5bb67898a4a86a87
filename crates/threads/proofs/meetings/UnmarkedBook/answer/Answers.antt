use Rattle.std.proofs.Common.{List, sym, ◌∙◌, subst}
use Rattle.accept.specs.declared.history.Ask.{Ask}
use Rattle.history.specs.Histories.{HaveSteps}
use Rattle.threads.proofs.Reading.{reply_nothing, first_shard}
use Rattle.threads.proofs.meetings.UnmarkedBook.answer.Goals as goal

pub commit-reply-requires-clause-shard : goal.commit-reply-requires-clause-shard
commit-reply-requires-clause-shard g c =
    let unmarked_book = c.self.invariant in
    first_shard c.self.inside.book.about c.args.ticket.ask unmarked_book.1 ∙ sym unmarked_book.2

pub commit-reply-requires-clause-reply : goal.commit-reply-requires-clause-reply
commit-reply-requires-clause-reply g c =
    let book = c.self.inside.book in
    c.requires.reply ∙ sym (reply_nothing book.about book.shard book.items c.args.ticket.ask.call c.requires.ticket.1 c.self.invariant.3)

pub commit-reply-requires-clause-order : goal.commit-reply-requires-clause-order
commit-reply-requires-clause-order g c = subst (λ (l : List Ask). HaveSteps l c.self.inside.book.items) (sym c.requires.alone) tt
