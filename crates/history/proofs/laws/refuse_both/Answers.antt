use Rattle.std.proofs.Common.{◌≡◌, ◌+◌, List, [], ◌∷◌, ◌++◌, sym, ap, ◌∙◌, subst}
use Rattle.history.proofs.Common.{Unavailable, Ask, Item, Answered, HaveSteps, doubt_of, step_of, ask_of, before_of, Booked, longer, refused_by}
use Rattle.history.proofs.Past.{made_now}
use Rattle.history.proofs.Lines.{one_before}
use Rattle.history.proofs.laws.refuse_both.Goals as goal

pub refuse-answer_one-requires-clause-kept : goal.refuse-answer_one-requires-clause-kept
refuse-answer_one-requires-clause-kept g c = c.requires.kept _ _

pub refuse-answer_two-requires-clause-order : goal.refuse-answer_two-requires-clause-order
refuse-answer_two-requires-clause-order g c =
    let k = c.args.pass.now.caller in
    let one = c.args.one.now in
    let two = c.args.two.now in
    let items = refused_by c.args.book.now.items k one in
    let before = ap (λ t. t.before) c.in-Ok.ensures.ticket ∙ ap (λ p. before_of p.caller (p.caller.last + 1) two) c.in_ok-first.ensures.pass in
    let book : c.refuse-answer_one.new.self.items ≡ items = ap (λ b. b.items) c.refuse-answer_one.ensures.book ∙ ap (λ t. c.args.book.now.items ++ Answered (step_of t.ask Unavailable) ∷ []) c.in_ok-first.ensures.ticket in
    subst (λ (z : List Ask × List Item). HaveSteps z.0 z.1) (λ i. (sym before i, sym book i))
    (one_before k (k.last + 1) (k.last + 1 + 1) one two items c.requires.idle (made_now (step_of (ask_of k (k.last + 1) one) Unavailable) c.args.book.now.items))

pub refuse-answer_two-requires-clause-kept : goal.refuse-answer_two-requires-clause-kept
refuse-answer_two-requires-clause-kept g c =
    subst (λ (b : Booked). g.K.Kept.kept c.args.kept.now (longer b (Answered (step_of c.in-Ok.second.ask Unavailable))) (doubt_of b.items)) (sym c.refuse-answer_one.ensures.book) (c.requires.kept _ _)
