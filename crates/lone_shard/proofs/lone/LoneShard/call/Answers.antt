use Rattle.std.proofs.Common.{◌+◌, ◌∙◌, List, ap, sym, subst}
use Rattle.accept.specs.declared.history.Ask.{Ask}
use Rattle.history.specs.Histories.{HaveSteps}
use Rattle.history.proofs.Lines.{alone_before}
use Rattle.lone_shard.proofs.Rounds.{only_shard}
use Rattle.lone_shard.proofs.lone.LoneShard.call.Goals as goal

pub apply-requires-clause-here : goal.apply-requires-clause-here
apply-requires-clause-here g c =
    let only = c.args.self.now.only in
    only_shard c.args.self.now.shard.book.about c.in_ok-ticket.ticket.ask only.0 ∙ sym only.1

pub apply-requires-clause-order : goal.apply-requires-clause-order
apply-requires-clause-order g c =
    let alone = c.args.self.now in
    let k = alone.pass.caller in
    let before = ap (λ t. t.before) c.in_ok-ticket.ensures.ticket ∙ alone_before k (k.last + 1) c.args.call.now alone.idle in
    subst (λ (l : List Ask). HaveSteps l alone.shard.book.items) (sym before) tt
