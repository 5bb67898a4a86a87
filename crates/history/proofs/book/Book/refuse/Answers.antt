use Rattle.std.proofs.Common.{List, sym, subst}
use Rattle.history.proofs.Common.{Unavailable, Ask, Answered, step_of, longer}
use Rattle.history.proofs.Books.{refuses}
use Rattle.history.proofs.Past.{doubt_marked}
use Rattle.history.proofs.book.Book.refuse.Goals as goal

pub commit-requires-clause-reply : goal.commit-requires-clause-reply
commit-requires-clause-reply g c = sym (refuses _ _ _ _ c.requires.marked)

pub commit-requires-clause-kept : goal.commit-requires-clause-kept
commit-requires-clause-kept g c =
    let book = c.args.self.now in
    let more = longer book (Answered (step_of c.args.ticket.ask Unavailable)) in
    subst (λ (doubt : List Ask). g.K.Kept.kept c.args.kept.now more doubt)
    (sym (doubt_marked book.items (g.K.Kept.doubts c.args.kept.now) c.requires.marked)) c.requires.kept
